-- What a step moves. References stay where they are, but for those of one slot that come anew, and
-- entries stay what they are. Only `show` adds an entry, of which `Shows` speaks.
use Rattle.std.proofs.Common.{◌≡◌, ◌⊎◌, inl, inr, ℕ, Bool, true, false, cond, List, [], ◌∷◌, Option}
use Rattle.std.proofs.Common.{Some, None, slice_set, slice_get, refl, sym, ap, ◌∙◌, ◌≤◌, ◌+◌, arith}
use Rattle.std.proofs.Common.{zero, suc, ◌++◌, ◌==◌, ◌&&◌, ◌||◌, length}
use Rattle.std.specs.Prelude.{option_and_then}
use Rattle.std.specs.List.{list_any}
use Rattle.std.proofs.lemmas.Bool.{and_parts, eqb-true, eq-eqb, false≢true}
use Rattle.std.proofs.lemmas.List.{length-set}
use Rattle.hcc_core.specs.declared.client.Client.{Client}
use Rattle.hcc_core.specs.declared.slot.Entry.{Entry}
use Rattle.hcc_core.specs.declared.slot.Reference.{Reference}
use Rattle.hcc_core.specs.declared.slot.Resident.{Resident}
use Rattle.hcc_core.specs.declared.slot.Slot.{Slot}
use Rattle.hcc_core.specs.declared.slot.Slot.TheVariants as slots
use Rattle.hcc_core.specs.Sums.{when, total}
use Rattle.hcc_core.specs.World.{State, is_named}
use Rattle.hcc_core.specs.Outcomes.{with_client, dropped}
use Rattle.hcc_core.specs.References.{new_reference, slot_acquired, slot_given, slot_used}
use Rattle.hcc_core.specs.Uses.{slot_marked, slot_with_uses}
use Rattle.hcc_core.specs.Entries.{slot_hidden}
use Rattle.hcc_core.specs.Lawful.{Lawful, stamps_by}
use Rattle.hcc_core.specs.Runs.{entry_held, held_at, named_on, named_in, entry_of, entry_at}
use Rattle.hcc_core.specs.Runs.{slot_weighs, slots_weigh}
use Rattle.hcc_core.proofs.ListLemmas.{read_same, read_at_set, read_other}
use Rattle.hcc_core.proofs.SumLemmas.{sum_at, total-set-at, total-set-le, total-append}
use Rattle.hcc_core.proofs.DroppedLemmas.{dropped-le}
use Rattle.hcc_core.proofs.HeldNames.{Unheld, named_free, any_counts, counts_any, unheld_none}

-- a reference stood where it stands with the same entry, or has come anew to one slot
pub record Holds (w w' : State) : Type 0 where
  pub here : ℕ
  pub held : (client name slot : ℕ) (entry : Entry) → held_at w' client name slot ≡ Some entry
      → (held_at w client name slot ≡ Some entry) ⊎ ((slot ≡ here) × Unheld w client name)
  pub times : (client name : ℕ)
      → (named_in w' client name ≤ named_in w client name) ⊎ (named_in w' client name ≤ 1)

-- what is held stays held, but for what goes
abbrev pub StaysHeld : (gone : ℕ → ℕ → Bool) → (w w' : State) → Type 0
StaysHeld gone w w' =
    Lawful w → (client name slot : ℕ) (entry : Entry) → gone client name ≡ false
    → held_at w client name slot ≡ Some entry → held_at w' client name slot ≡ Some entry

-- what of a slot anyone sees: its entry, and whether it is shown
abbrev pub face_of : Slot → Option (Entry × Bool)
face_of (slots.Empty strays) = None
face_of (slots.Building client strays) = None
face_of (slots.Shareable r) = Some (r.entry, r.shown)

abbrev pub face_at : State → ℕ → Option (Entry × Bool)
face_at w slot = option_and_then face_of (slice_get w.slots slot)

-- each slot but this one has the face that it had
abbrev pub KeepsFaces : Option ℕ → (w w' : State) → Type 0
KeepsFaces but w w' = (slot : ℕ) → ¬ (but ≡ Some slot) → face_at w' slot ≡ face_at w slot

-- a step that shows nothing, loses this entry at most and changes at most this slot's face
pub record Moves (gone : ℕ → ℕ → Bool) (lost : Option Entry) (but : Option ℕ) (w w' : State)
    : Type 0 where
  pub holds : Holds w w'
  pub stands : StaysHeld gone w w'
  pub entries : (slot : ℕ) (entry : Entry) → entry_at w' slot ≡ Some entry
      → entry_at w slot ≡ Some entry
  pub faces : KeepsFaces but w w'
  pub counts : (c : ℕ) → stamps_by (slice_get w'.clients c) ≡ stamps_by (slice_get w.clients c)
  pub weighs : Lawful w → (h : Entry → ℕ) → slots_weigh h w' + sum_at h lost ≡ slots_weigh h w
  pub many : length w'.clients ≡ length w.clients

-- Steps that leave the slots alone.

pub holds_still : (w w' : State) → w'.slots ≡ w.slots → Holds w w'
holds_still w w' same = record {
  here = 0;
  held = λ client name slot entry h.
      inl (ap (λ all. option_and_then (entry_held client name) (slice_get all slot)) (sym same)
      ∙ h);
  times = λ client name.
      let as_many = ap (total (named_on client name)) same in inl (omega arith);
}

-- no step, or a turn of the hand
pub still : {gone : ℕ → ℕ → Bool} {but : Option ℕ} (w : State) (hand : ℕ)
    → Moves gone None but w (record w { hand = hand })
still w hand = record {
  holds = holds_still w _ refl;
  stands = λ l c n s e other h. h;
  entries = λ s e h. h;
  faces = λ s other. refl;
  counts = λ c. refl;
  weighs = λ l h. omega arith;
  many = refl;
}

-- a change of one client
pub client_moves : {gone : ℕ → ℕ → Bool} {but : Option ℕ} (w : State) (client : ℕ)
    (old new : Client) → slice_get w.clients client ≡ Some old → new.stamps ≡ old.stamps
    → Moves gone None but w (with_client w client new)
client_moves w client old new at_client stamps = record {
  holds = holds_still w _ refl;
  stands = λ l c n s e other h. h;
  entries = λ s e h. h;
  faces = λ s other. refl;
  counts = λ c. read_same stamps_by w.clients client c old new at_client stamps;
  weighs = λ l h. omega arith;
  many = length-set w.clients client new;
}

-- Steps that change one slot.

-- a name stands no more often than it did, or is new to the world and comes once
abbrev pub FewOrNew : State → ℕ → ℕ → ℕ → ℕ → Type 0
FewOrNew w client name now before =
    (now ≤ before) ⊎ (Unheld w client name × (now ≤ before + 1))

-- a reference on what is left in a slot was there, or is new to the world
pub record KeepsHeld (w : State) (seen : Option Slot) (left : Slot) : Type 0 where
  pub held : (client name : ℕ) (entry : Entry) → entry_held client name left ≡ Some entry
      → (option_and_then (entry_held client name) seen ≡ Some entry) ⊎ Unheld w client name
  pub times : (client name : ℕ)
      → FewOrNew w client name (named_on client name left) (sum_at (named_on client name) seen)

-- what was read in a list is read after a write that keeps it
pub read_kept : {X A : Type 0} (f : X → Option A) (xs : List X) (i j : ℕ) (new : X) (a : A)
    → (option_and_then f (slice_get xs i) ≡ Some a → f new ≡ Some a)
    → option_and_then f (slice_get xs j) ≡ Some a
    → option_and_then f (slice_get (slice_set xs i new) j) ≡ Some a
read_kept f [] i j new a keeps h = h
read_kept f (x ∷ xs) zero zero new a keeps h = keeps h
read_kept f (x ∷ xs) zero (suc j) new a keeps h = h
read_kept f (x ∷ xs) (suc i) zero new a keeps h = h
read_kept f (x ∷ xs) (suc i) (suc j) new a keeps h = read_kept f xs i j new a keeps h

-- what is among the first of a list is in it
any_before : {X : Type 0} (q : X → Bool) (xs ys : List X) → list_any q xs ≡ true
    → list_any q (xs ++ ys) ≡ true
any_before q [] ys h = absurd (false≢true h)
any_before q (x ∷ xs) ys h = by (q x) (any_before q xs ys) h
  where
    by : (b : Bool) → (list_any q xs ≡ true → list_any q (xs ++ ys) ≡ true)
        → (b || list_any q xs) ≡ true → (b || list_any q (xs ++ ys)) ≡ true
    by true later h = refl
    by false later h = later h

-- the world then holds what it held, or that new reference
pub holds_slot : (w : State) (slot : ℕ) (left : Slot) (clients : List Client)
    → KeepsHeld w (slice_get w.slots slot) left
    → Holds w (record w { slots = slice_set w.slots slot left; clients = clients })
holds_slot w slot left clients keeps = record {
  here = slot;
  held = λ client name t entry h.
      elim (read_at_set (entry_held client name) w.slots slot t left entry h) [
        | inl e ↦ elim (keeps.held client name entry e.1) [
          | inl k ↦ inl (ap (held_at w client name) e.0 ∙ k)
          | inr u ↦ inr (e.0, u)
        ]
        | inr e ↦ inl e
      ];
  times = λ client name. elim (keeps.times client name) [
    | inl few ↦
        let no_more = total-set-le (named_on client name) w.slots slot left 0 (omega arith) in
        inl (omega arith)
    | inr new ↦
        let more = total-set-le (named_on client name) w.slots slot left 1 new.1 in
        let none = unheld_none w client name new.0 in
        inr (omega arith)
  ];
}

-- a reading of a list is the same after a write that reads as what was there, or in another place
read_alike : {X A : Type 0} (f : X → Option A) (xs : List X) (i j : ℕ) (new : X) (kept : Bool)
    → (kept ≡ true → f new ≡ option_and_then f (slice_get xs i))
    → ¬ (cond kept None (Some i) ≡ Some j)
    → option_and_then f (slice_get (slice_set xs i new) j) ≡ option_and_then f (slice_get xs j)
read_alike f xs i j new false same other =
    ap (option_and_then f) (read_other xs i j new (λ e. other (ap Some (sym e))))
read_alike f [] i j new true same other = refl
read_alike f (x ∷ xs) zero zero new true same other = same refl
read_alike f (x ∷ xs) zero (suc j) new true same other = refl
read_alike f (x ∷ xs) (suc i) zero new true same other = refl
read_alike f (x ∷ xs) (suc i) (suc j) new true same other =
    read_alike f xs i j new true same (λ e. cc)

-- and it has no other entry, nor lost any but this one, and may have kept its face
pub record Turns (gone : ℕ → ℕ → Bool) (lost : Option Entry) (kept : Bool) (w : State)
    (seen : Option Slot) (left : Slot) : Type 0 where
  pub keeps : KeepsHeld w seen left
  pub stands : Lawful w → (client name : ℕ) (entry : Entry) → gone client name ≡ false
      → option_and_then (entry_held client name) seen ≡ Some entry
      → entry_held client name left ≡ Some entry
  pub entry : (e : Entry) → entry_of left ≡ Some e → option_and_then entry_of seen ≡ Some e
  pub face : kept ≡ true → face_of left ≡ option_and_then face_of seen
  pub weighs : Lawful w → (h : Entry → ℕ)
      → slot_weighs h left + sum_at h lost ≡ sum_at (slot_weighs h) seen

-- a change of one slot, beside which no count of stamps changes
pub slot_moves : {gone : ℕ → ℕ → Bool} {lost : Option Entry} {kept : Bool} (w : State) (slot : ℕ)
    (left : Slot) (clients : List Client)
    → Turns gone lost kept w (slice_get w.slots slot) left
    → ((c : ℕ) → stamps_by (slice_get clients c) ≡ stamps_by (slice_get w.clients c))
    → length clients ≡ length w.clients
    → Moves gone lost (cond kept None (Some slot)) w
    (record w { slots = slice_set w.slots slot left; clients = clients })
slot_moves {lost = lost} {kept = kept} w slot left clients turns counts many = record {
  holds = holds_slot w slot left clients turns.keeps;
  stands = λ l c n t e other h.
      read_kept (entry_held c n) w.slots slot t left e (turns.stands l c n e other) h;
  entries = λ t entry h. elim (read_at_set entry_of w.slots slot t left entry h) [
    | inl e ↦ ap (entry_at w) e.0 ∙ turns.entry entry e.1
    | inr e ↦ e
  ];
  faces = λ t other. read_alike face_of w.slots slot t left kept turns.face other;
  counts = counts;
  weighs = λ l h.
      let change = total-set-at (slot_weighs h) w.slots slot left (sum_at h lost)
      (turns.weighs l h) in
      omega arith;
  many = many;
}

-- What becomes of the slot.

-- a slot without an entry holds nothing
pub emptied : {gone : ℕ → ℕ → Bool} {lost : Option Entry} {kept : Bool} (w : State)
    (seen : Option Slot) (strays : ℕ)
    → (Lawful w → (c n : ℕ) (e : Entry) → gone c n ≡ false
    → option_and_then (entry_held c n) seen ≡ Some e → None ≡ Some e)
    → (kept ≡ true → None ≡ option_and_then face_of seen)
    → (Lawful w → (h : Entry → ℕ) → sum_at h lost ≡ sum_at (slot_weighs h) seen)
    → Turns gone lost kept w seen (slots.Empty strays)
emptied w seen strays none bare goes = record {
  keeps = record { held = λ c n e h. cc; times = λ c n. inl (omega arith) };
  stands = none;
  entry = λ e h. cc;
  face = bare;
  weighs = λ l h. let less = goes l h in omega arith;
}

pub taken : {gone : ℕ → ℕ → Bool} {lost : Option Entry} {kept : Bool} (w : State)
    (seen : Option Slot) (client strays : ℕ)
    → (Lawful w → (c n : ℕ) (e : Entry) → gone c n ≡ false
    → option_and_then (entry_held c n) seen ≡ Some e → None ≡ Some e)
    → (kept ≡ true → None ≡ option_and_then face_of seen)
    → (Lawful w → (h : Entry → ℕ) → sum_at h lost ≡ sum_at (slot_weighs h) seen)
    → Turns gone lost kept w seen (slots.Building client strays)
taken w seen client strays none bare goes = record {
  keeps = record { held = λ c n e h. cc; times = λ c n. inl (omega arith) };
  stands = none;
  entry = λ e h. cc;
  face = bare;
  weighs = λ l h. let less = goes l h in omega arith;
}

-- a slot that is left as it was
same : {gone : ℕ → ℕ → Bool} {kept : Bool} (w : State) (seen : Slot)
    → Turns gone None kept w (Some seen) seen
same w seen = record {
  keeps = record { held = λ c n e h. inl h; times = λ c n. inl (omega arith) };
  stands = λ l c n e other h. h;
  entry = λ e h. h;
  face = λ k. refl;
  weighs = λ l h. omega arith;
}

-- the entry stays, and each reference was there or is new to the world
stays : {gone : ℕ → ℕ → Bool} {kept : Bool} (w : State) (r left : Resident)
    → left.entry ≡ r.entry → (kept ≡ true → left.shown ≡ r.shown)
    → ((c n : ℕ)
    → FewOrNew w c n (named_on c n (slots.Shareable left)) (named_on c n (slots.Shareable r)))
    → ((c n : ℕ) → gone c n ≡ false → list_any (is_named c n) r.references ≡ true
    → list_any (is_named c n) left.references ≡ true)
    → Turns gone None kept w (Some (slots.Shareable r)) (slots.Shareable left)
stays {gone = gone} w r left same shown times names = record {
  keeps = record {
    held = λ c n e h. by c n e (list_any (is_named c n) left.references) refl h;
    times = times;
  };
  stands = λ l c n e other h.
      still_named c n e (list_any (is_named c n) r.references) other refl h;
  entry = λ e h. ap Some (sym same) ∙ h;
  face = λ k.
      ap (λ e. Some (e, left.shown)) same ∙ ap (λ b. Some (r.entry, b)) (shown k);
  weighs = λ l h. let as_much = ap h same in omega arith;
}
  where
    by : (c n : ℕ) (e : Entry) (b : Bool) → list_any (is_named c n) left.references ≡ b
        → cond b (Some left.entry) None ≡ Some e
        → (entry_held c n (slots.Shareable r) ≡ Some e) ⊎ Unheld w c n
    by c n e true is h = elim (times c n) [
      | inl few ↦
          let some = any_counts (is_named c n) left.references is in
          let was = counts_any (is_named c n) r.references (omega arith) in
          inl (rw was (ap Some (sym same) ∙ h))
      | inr new ↦ inr new.0
    ]
    by c n e false is h = cc

    still_named : (c n : ℕ) (e : Entry) (b : Bool) → gone c n ≡ false
        → list_any (is_named c n) r.references ≡ b → cond b (Some r.entry) None ≡ Some e
        → entry_held c n (slots.Shareable left) ≡ Some e
    still_named c n e true other is h = rw (names c n other is) (ap Some same ∙ h)
    still_named c n e false other is h = cc

-- a reference has one client and one name
pub one_name : (client name c n : ℕ) (k : Reference) → is_named client name k ≡ true
    → is_named c n k ≡ true → ((client == c) && (name == n)) ≡ true
one_name client name c n k h l =
    let a = and_parts (k.client == client) (k.name == name) h in
    let b = and_parts (k.client == c) (k.name == n) l in
    let one : client ≡ c = sym (eqb-true k.client client a.0) ∙ eqb-true k.client c b.0 in
    let two : name ≡ n = sym (eqb-true k.name name a.1) ∙ eqb-true k.name n b.1 in
    rw (eq-eqb client c one, eq-eqb name n two) refl

-- the references that are left were there, and of those only one name went
left_named : (client name c n : ℕ) (ks : List Reference)
    → ((client == c) && (name == n)) ≡ false → list_any (is_named c n) ks ≡ true
    → list_any (is_named c n) (dropped (is_named client name) ks) ≡ true
left_named client name c n [] other h = absurd (false≢true h)
left_named client name c n (k ∷ ks) other h =
    by (is_named client name k) (is_named c n k) refl refl (left_named client name c n ks other) h
  where
    by : (a b : Bool) → is_named client name k ≡ a → is_named c n k ≡ b
        → (list_any (is_named c n) ks ≡ true
        → list_any (is_named c n) (dropped (is_named client name) ks) ≡ true)
        → (b || list_any (is_named c n) ks) ≡ true
        → list_any (is_named c n) (cond a ks (k ∷ dropped (is_named client name) ks)) ≡ true
    by true true is was later h =
        absurd (false≢true (sym other ∙ one_name client name c n k is was))
    by true false is was later h = h
    by false true is was later h = rw was refl
    by false false is was later h = rw was (later h)

-- whether a reference has this client and name, as a step tells them
abbrev pub called : ℕ → ℕ → ℕ → ℕ → Bool
called client name c n = (client == c) && (name == n)

-- the references that are left by one that goes
pub given : (w : State) (client name : ℕ) (seen : Slot)
    → Turns (called client name) None true w (Some seen) (slot_given client name seen)
given w client name (slots.Empty strays) = same w _
given w client name (slots.Building other strays) = same w _
given w client name (slots.Shareable r) =
    stays w r _ refl (λ k. refl) (λ c n. inl (dropped-le _ _ r.references))
    (λ c n. left_named client name c n r.references)

pub used : (w : State) (client name : ℕ) (k : Reference) (seen : Slot)
    → Turns (called client name) None true w (Some seen) (slot_used client name k seen)
used w client name k (slots.Empty strays) = same w _
used w client name k (slots.Building other strays) = same w _
used w client name k (slots.Shareable r) =
    stays w r _ refl (λ k. refl) (λ c n. inl (dropped-le _ _ r.references))
    (λ c n. left_named client name c n r.references)

-- the entry stays, and so do its references
pub hid : {gone : ℕ → ℕ → Bool} (w : State) (seen : Slot)
    → Turns gone None false w (Some seen) (slot_hidden seen)
hid w (slots.Empty strays) = same w _
hid w (slots.Building other strays) = same w _
hid w (slots.Shareable r) =
    stays w r _ refl (λ k. cc) (λ c n. inl (omega arith)) (λ c n other h. h)

pub marked : {gone : ℕ → ℕ → Bool} (w : State) (seen : Slot)
    → Turns gone None true w (Some seen) (slot_marked seen)
marked w (slots.Empty strays) = same w _
marked w (slots.Building other strays) = same w _
marked w (slots.Shareable r) =
    stays w r _ refl (λ k. refl) (λ c n. inl (omega arith)) (λ c n other h. h)

pub recounted : {gone : ℕ → ℕ → Bool} (w : State) (uses : ℕ) (seen : Slot)
    → Turns gone None true w (Some seen) (slot_with_uses uses seen)
recounted w uses (slots.Empty strays) = same w _
recounted w uses (slots.Building other strays) = same w _
recounted w uses (slots.Shareable r) =
    stays w r _ refl (λ k. refl) (λ c n. inl (omega arith)) (λ c n other h. h)

-- the references of an entry that was acquired: those that were there and the new one
pub got : {gone : ℕ → ℕ → Bool} (w : State) (client name weight : ℕ) (seen : Slot)
    → Unheld w client name
    → Turns gone None true w (Some seen)
    (slot_acquired seen (new_reference client name weight seen))
got w client name weight (slots.Empty strays) free =
    emptied w _ _ (λ l c n e other h. h) (λ k. refl) (λ l h. refl)
got w client name weight (slots.Building other strays) free =
    taken w _ _ _ (λ l c n e other h. h) (λ k. refl) (λ l h. refl)
got w client name weight (slots.Shareable r) free =
    stays w r _ refl (λ k. refl) (λ c n. by c n (is_named c n k) refl)
    (λ c n other h. any_before (is_named c n) r.references (k ∷ []) h)
  where
    k : Reference
    k = new_reference client name weight (slots.Shareable r)

    by : (c n : ℕ) (b : Bool) → is_named c n k ≡ b
        → FewOrNew w c n (named_on c n (slot_acquired (slots.Shareable r) k))
        (named_on c n (slots.Shareable r))
    by c n true is =
        let sum = total-append (λ j. when (is_named c n j) 1) r.references (k ∷ []) in
        let one : when (is_named c n k) 1 ≡ 1 = rw is refl in
        inr (named_free w client name c n free is, omega arith)
    by c n false is =
        let sum = total-append (λ j. when (is_named c n j) 1) r.references (k ∷ []) in
        let none : when (is_named c n k) 1 ≡ 0 = rw is refl in
        inl (omega arith)
