-- What a client needs to insert an entry, and what that leaves of its view.
use Rattle.std.specs.Prelude.{◌≡◌, ℕ, ◌+◌, ◌<◌, ◌≤◌, List, [], ◌∷◌, ◌++◌, None, IfSome, length}
use Rattle.hcc_core.specs.declared.limits.TheConstants.{MOST_CLIENTS, MOST_COUNTDOWN, REFERENCES_PER_CLIENT, STAMPS_PER_CLIENT}
use Rattle.hcc_core.specs.declared.client.Owned.TheVariants as owned
use Rattle.hcc_core.specs.declared.client.Place.TheVariants as places
use Rattle.hcc_rule.specs.declared.key.Key.{Key}
use Rattle.hcc_rule.specs.declared.rule.Plan.{Plan}
use Rattle.hcc_rule.specs.declared.steps.shows.Draft.{Draft}
use Rattle.hcc_rule.specs.declared.view.View.{View}
use Rattle.hcc_rule.specs.Probes.{probe_slot}
use Rattle.hcc_rule.specs.Rule.{IsAbove, IsRight}
use Rattle.hcc_rule.specs.ToldOwners.{after_show, made_of}
use Rattle.hcc_rule.specs.Views.{load_of}
use Rattle.hcc_rule.specs.Records.{record_in}
use Rattle.hcc_table.specs.declared.efforts.Effort.{Effort}
use Rattle.hcc_table.specs.declared.inserting.Insertion.{Insertion}
use Rattle.hcc_table.specs.declared.inserting.Insertion.TheVariants.{Placed, Matched, NoSlot}
use Rattle.hcc_table.specs.Rises.{Rose}
use Rattle.hcc_table.specs.Searched.{Grows, Buried, IsBefore}

-- What a client has that may insert an entry: its own number, its place and its charge granted,
-- nothing needed and no slot in hand, a value that is right for the key, a countdown of 1 to 3, a
-- free name, room for the references that it acquires where it meets a visible entry, and for one
-- more entry.
pub record MayInsert {T : Type 0} (fits : T → Key → List ℕ → Type 0) (p : Plan T) (draft : Draft)
    (value : List ℕ) (client name : ℕ) (v : View T) : Type 0 where
  pub own : client ≡ v.client
  pub known : client < MOST_CLIENTS
  pub idle : v.work.owned ≡ owned.Nothing
  pub place : v.work.place ≡ places.Granted
  pub needed : v.work.needed ≡ 0
  pub paid : draft.charge ≤ v.work.granted
  pub right : IsRight fits p.tag p.geometry.room (made_of draft value)
  pub some : 1 ≤ draft.countdown
  pub few : draft.countdown ≤ MOST_COUNTDOWN
  pub fresh : record_in name v.records ≡ None
  -- the reference that the client keeps, if any, has that name
  pub called : IfSome draft.name (λ x. x ≡ name)
  pub room : load_of v.records + MOST_COUNTDOWN ≤ REFERENCES_PER_CLIENT
  pub stamps : length v.made < STAMPS_PER_CLIENT
  pub above : IsAbove draft.serial v.made

-- how many slots an insertion visited, by how many of them it found taken
abbrev pub visited_by : Insertion → ℕ → ℕ
visited_by (Placed slot) taken = taken + 1
visited_by Matched taken = taken
visited_by NoSlot taken = taken

module _ {T : Type 0} where
  -- The slots that it visited are counted: those that it found taken, which its view counts, and
  -- one more where the entry was placed.
  abbrev pub CountsTaken : Insertion → View T → View T → Effort → Effort → Type 0
  CountsTaken answer v w before after =
      (taken : ℕ) × (w.saw ≡ v.saw + taken)
      × Rose (visited_by answer taken) (visited_by answer taken) before.probes after.probes

  -- the view with this trail
  abbrev pub with_trail : List ℕ → View T → View T
  with_trail trail v = record v { work = record v.work { trail = trail } }

  -- the view with these words written
  abbrev pub with_words : List ℕ → View T → View T
  with_words words v = record v { written = words }

  -- Slots were tried and looked at, entries were seen dead, and keys were met. All else stays.
  pub record Tried (v w : View T) : Type 0 where
    pub same : w ≡ record v {
      work = record v.work { looked = w.work.looked; dead = w.work.dead };
      met = w.met;
      glimpse = w.glimpse;
      saw = w.saw;
    }
    pub dead : Grows v.work.dead w.work.dead
    pub met : (more : List Key) × (w.met ≡ v.met ++ more)
    pub saw : v.saw ≤ w.saw

  -- the key was met, last of all
  abbrev pub Meets : Key → View T → View T → Type 0
  Meets key v w = (more : List Key) × (w.met ≡ v.met ++ more ++ key ∷ [])

  -- The view after the try of one slot, by the answer. Placed: the entry is the newest that the
  -- client made, and all that it had in hand for it is spent. Matched, or no slot: it wasn't empty.
  abbrev pub TriedAt : (slot : ℕ) → Draft → List ℕ → Insertion → View T → View T → Type 0
  TriedAt slot draft value (Placed there) v w =
      (there ≡ slot) × (w ≡ after_show slot draft.name (made_of draft value) v)
  TriedAt slot draft value Matched v w =
      Tried v w × (w.saw ≡ v.saw + 1) × Meets draft.key v w
  TriedAt slot draft value NoSlot v w =
      Tried v w × (w.saw ≡ v.saw + 1) × Buried draft.key (λ s. s ≡ slot) v w

  -- The entry was put into the slot that is probe i of its key: the i probes before it were taken,
  -- and each entry of the key that the client holds there is dead to it.
  pub record IsPlaced (slots slot i : ℕ) (draft : Draft) (value : List ℕ)
      (v w : View T) : Type 0 where
    pub low : slot < slots
    pub inside : i < slots
    pub probe : slot ≡ probe_slot slots draft.key i
    pub tried : Tried (after_show slot draft.name (made_of draft value) v) w
    pub saw : w.saw ≡ v.saw + i
    pub dead : Buried draft.key (IsBefore slots draft.key i) v w

  -- The view after an insertion, by the answer. Matched: at least one slot was taken. No slot: all
  -- were, and each entry of the key that the client holds there is dead to it.
  abbrev pub InsertedBy : (slots : ℕ) → Draft → List ℕ → Insertion → View T → View T → Type 0
  InsertedBy slots draft value (Placed slot) v w = (i : ℕ) × IsPlaced slots slot i draft value v w
  InsertedBy slots draft value Matched v w =
      Tried v w × (v.saw < w.saw) × Meets draft.key v w
  InsertedBy slots draft value NoSlot v w =
      Tried v w × (w.saw ≡ v.saw + slots) × Buried draft.key (IsBefore slots draft.key slots) v w
