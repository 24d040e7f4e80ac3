-- A load of a data word: nothing changes, and the word is the entry's that is on record, or the one
-- that the owner of a slot knows there.
use Rattle.std.proofs.Common.{◌≡◌, ℕ, zero, suc, ◌+◌, ◌^◌, ◌<◌, ◌≢◌, ◌==◌, Bool, true, false, cond, List, [], ◌∷◌, Option, Some, None, Ok, IfSome, IsSomeAnd, length, slice_get, slice_index, slice_set, sym, refl, ap, ◌∙◌, arith}
use Rattle.std.proofs.lemmas.Bool.{lt-ltb}
use mathlib.Core.Option.{none}
use Rattle.atomic_table.specs.Table.{step, keeps}
use Rattle.hcc_core.specs.declared.slot.Entry.{Entry}
use Rattle.hcc_core.specs.declared.slot.Stamp.{Stamp}
use Rattle.hcc_core.specs.declared.client.Client.{Client}
use Rattle.hcc_core.specs.declared.slot.Resident.{Resident}
use Rattle.hcc_core.specs.declared.slot.Slot.TheVariants as slots
use Rattle.hcc_core.specs.declared.event.Event.TheVariants as events
use Rattle.hcc_core.specs.declared.event.Reply.TheVariants as replies
use Rattle.hcc_core.specs.World.{State, slot_holding}
use Rattle.hcc_core.specs.Entries.{read_of}
use Rattle.hcc_core.specs.Steps.{outcome_of}
use Rattle.hcc_core.specs.Lawful.{Lawful, owned_slot}
use Rattle.hcc_core.proofs.Opening.{is_lawful}
use Rattle.hcc_rule.specs.declared.key.Key.{Key}
use Rattle.hcc_rule.specs.declared.layout.TheConstants.{DATA, KEY1, STAMP}
use Rattle.hcc_rule.specs.declared.rule.Plan.{Plan}
use Rattle.hcc_rule.specs.declared.view.Done.{Done}
use Rattle.hcc_rule.specs.declared.view.Glimpse.{Glimpse}
use Rattle.hcc_rule.specs.declared.view.Made.{Made}
use Rattle.hcc_rule.specs.declared.view.Record.{Record}
use Rattle.hcc_rule.specs.declared.view.View.{View}
use Rattle.hcc_rule.specs.Told.{Held}
use Rattle.hcc_rule.specs.ToldOwners.{entry_words, IsDataWord, with_met, after_read, reads, reads_own}
use Rattle.hcc_rule.specs.Views.{is_seated, is_called}
use Rattle.hcc_rule.specs.Records.{record_in}
use Rattle.hcc_rule.specs.Words.{field_at, made_words, entry_of}
use Rattle.hcc_rule.specs.Rule.{entry_in, IsRecorded, IsStood, IsStored, IsDraft, Holds}
use Rattle.hcc_rule.proofs.Basics.Lists.{within, read_at, each_set}
use Rattle.hcc_rule.proofs.Basics.Findings.{find_each}
use Rattle.hcc_rule.proofs.Parts.ClientParts.{SameView, references_view, holding_view, seats_still, stamps_still}
use Rattle.hcc_rule.proofs.Parts.Tags.{quiet, tags_step}
use Rattle.hcc_rule.proofs.Parts.WorldParts.{hand_kept}
use Rattle.hcc_rule.proofs.Parts.SlotSteps.{Shard}
use Rattle.hcc_rule.proofs.Parts.OnEntries.{OnEntry, on_some, name_held}
use Rattle.hcc_rule.proofs.Parts.Touches.{client_is, live_is}
use Rattle.hcc_rule.proofs.References.Looks.{client_fits}
use Rattle.hcc_rule.specs.Acts.{Acts, Becomes, Goes, GoesBy, did}
use Rattle.hcc_rule.specs.Events.{read_done}

-- a word written over itself
pub word_same : (words : List ℕ) (a : ℕ) → slice_set words a (slice_index words a) ≡ words
word_same [] a = refl
word_same (w ∷ ws) zero = refl
word_same (w ∷ ws) (suc a) = ap (λ l. w ∷ l) (word_same ws a)

-- a read is allowed where the client holds the name
read_allowed : (w : State) (c x i : ℕ) (found : Client) (k : Resident) → Lawful w → x < 2 ^ 64
    → slot_holding w.slots c x ≡ Some i → slice_get w.slots i ≡ Some (slots.Shareable k)
    → slice_get w.clients c ≡ Some found → found.live ≡ true
    → outcome_of w (events.Read c x)
    ≡ Ok (replies.Entry k.entry.key0 k.entry.key1 k.entry.value, w)
unfolding outcome_of read_of
read_allowed w c x i found k l small holds at_slot at_client live =
    rw (
      client_fits w c l (within w.clients c found at_client),
      lt-ltb x (2 ^ 64) small,
      at_client,
      live,
      holds,
      at_slot,
    ) refl

-- the data words of an entry are its maker's, but for the serial
words_same : (stamp : Stamp) (made : Made) (index : ℕ) → index ≢ STAMP
    → slice_index (made_words stamp.client made) index
    ≡ slice_index (entry_words (entry_of stamp made)) index
words_same stamp made zero other = refl
words_same stamp made (suc zero) other = refl
words_same stamp made (suc (suc zero)) other = refl
words_same stamp made (suc (suc (suc zero))) other = absurd (other refl)
words_same stamp made (suc (suc (suc (suc k)))) other = refl

module _ {T : Type 0} (fits : T → Key → List ℕ → Type 0) (p : Plan T) where
  -- A view of which the met keys and the glimpse alone change keeps the rule.
  met_holds : (s : Shard fits p) (r : Holds fits p s) (id : ℕ) (v : View T) (met : List Key)
      (glimpse : Option Glimpse)
      → slice_get s.views id ≡ Some v → is_seated v ≡ true
      → IfSome glimpse (λ g. (g.slot < p.geometry.slots)
      × IsStood p.geometry.room s.words r.books s.views g.slot g.word g.stood)
      → Holds fits p record {
        words = s.words;
        homes = s.homes;
        views = slice_set s.views id (record v { met = met; glimpse = glimpse });
      }
  met_holds s r id v met glimpse at seated glimpsed = record {
    world = r.world;
    books = r.books;
    setup = r.setup;
    lawful = r.lawful;
    coded = r.coded;
    stored = r.stored;
    drafted = each_set (λ j u. IsDraft p.geometry.room s.words u) s.views id new
        (let old = r.drafted id v at in record { short = old.short; lies = old.lies })
        (λ j u other there. r.drafted j u there);
    references = references_view r.world.slots s.views id v new r.references at same;
    holding = holding_view r.world.slots s.views id v new r.holding at same;
    seats = seats_still p.tag r.world.clients r.books s.views id v new r.seats at seated same refl;
    stamps =
        stamps_still fits p.tag p.geometry.room r.world.slots r.world.clients r.books s.views id v
        new
        r.stamps at (client_is fits p s r id v at seated) same refl;
    ledgers = r.ledgers;
    trails = r.trails;
    turned = r.turned;
    turns = r.turns ∙ hand_kept s.views id v new at refl;
    tags =
        let old = r.tags.each id v at in
        tags_step p.geometry.slots p.geometry.room s.words s.words r.books r.books s.views id v new
        at (quiet p.geometry.slots p.geometry.room s.words s.words r.books r.books s.views id v new
        old r.tags.apart refl refl refl refl refl (λ slot near. refl) old.looked glimpsed)
        r.tags;
  }
    where
      new : View T
      new = record v { met = met; glimpse = glimpse }

      same : SameView v new
      same = record {
        tag = refl;
        client = refl;
        others = refl;
        records = refl;
        made =
            refl;
        takings = refl;
        gone = refl;
      }

  -- and shows the world that it showed
  pub met_becomes : (s : Shard fits p) (r : Holds fits p s) (id : ℕ) (v : View T) (met : List Key)
      (glimpse : Option Glimpse)
      → slice_get s.views id ≡ Some v → is_seated v ≡ true
      → IfSome glimpse (λ g. (g.slot < p.geometry.slots)
      × IsStood p.geometry.room s.words r.books s.views g.slot g.word g.stood)
      → (done : Done) → GoesBy v.client r.world (Some done) r.world
      → Becomes fits p v.client r.world (Some done) record {
        words = s.words;
        homes = s.homes;
        views = slice_set s.views id (record v { met = met; glimpse = glimpse });
      }
  unfolding met_holds
  met_becomes s r id v met glimpse at seated glimpsed done goes =
      (met_holds s r id v met glimpse at seated glimpsed, goes)

  -- The word that stands for an entry.
  pub entry_word : (s : Shard fits p) (r : Holds fits p s) (i index : ℕ) (entry : Entry)
      → entry_in (slice_get r.world.slots i) ≡ Some entry
      → IsDataWord entry index (slice_index s.words (field_at p.geometry.room i DATA + index))
  entry_word s r i index entry there other low =
      let stored : IsStored p.geometry.room s.words r.books i entry = r.stored i entry there in
      let long : length (entry_words entry)
      ≡ length (made_words entry.stamp.client stored.made) =
      ap (λ (z : Entry). length (entry_words z)) stored.same in
      stored.lies index (omega arith)
      ∙ (words_same entry.stamp stored.made index other
      ∙ ap (λ (z : Entry). slice_index (entry_words z) index) (sym stored.same))

  -- And for one on record.
  pub data_word : (s : Shard fits p) (r : Holds fits p s) (id i index : ℕ) (v : View T) (q : Record)
      → slice_get s.views id ≡ Some v → IsRecorded r.world.slots q → q.slot ≡ i
      → IsDataWord q.entry index (slice_index s.words (field_at p.geometry.room i DATA + index))
  data_word s r id i index v q at recorded on =
      entry_word s r i index q.entry
      (ap (λ j. entry_in (slice_get r.world.slots j)) (sym on) ∙ recorded.there)

  -- A load of a data word by a record keeps the rule, and tells the entry's word.
  pub read_step : (count id i x index a : ℕ) (me : Held T) → is_seated me.0 ≡ true → x < 2 ^ 64
      → a ≡ field_at p.geometry.room i DATA + index
      → IsSomeAnd (record_in x me.0.records) (λ q. q.slot ≡ i)
      → Acts fits p count id me a (λ n. n) (reads x index (step count a 0 0 none) me)
  unfolding met_holds
  read_step count id i x index a me seated small address so s r homes at low =
      by (record_in x me.0.records) refl so
    where
      at_view : slice_get s.views id ≡ Some me.0
      at_view = read_at s.views id me.0 at

      kept : (done : Done) → GoesBy me.0.client r.world (Some done) r.world → (b : Bool)
          → Becomes fits p me.0.client r.world (Some done) record {
            words = s.words;
            homes = s.homes;
            views = slice_set s.views id (cond b
                (record me.0 { met = with_met (record_in x me.0.records) me.0.met }) me.0);
          }
      kept done goes true = (
        met_holds s r id me.0 (with_met (record_in x me.0.records) me.0.met) me.0.glimpse at_view
            seated (r.tags.each id me.0 at_view).glimpse,
        goes,
      )
      kept done goes false = (
        met_holds s r id me.0 me.0.met me.0.glimpse at_view seated
            (r.tags.each id me.0 at_view).glimpse,
        goes,
      )

      told : (o : Option Record) → record_in x me.0.records ≡ o → IsSomeAnd o (λ q. q.slot ≡ i)
          → IfSome o (λ q. IsDataWord q.entry index (slice_index s.words a))
      told None called so = absurd so
      told (Some q) called so =
          rw address (data_word s r id i index me.0 q at_view
          (find_each (is_called x) (IsRecorded r.world.slots) me.0.records q
          (r.holding id me.0 at_view).recorded called) so)

      done_of : Resident → Done
      done_of k = did (events.Read me.0.client x)
          (replies.Entry k.entry.key0 k.entry.key1 k.entry.value)

      reads_on : (q : Record) (k : Resident) → OnEntry fits p s r id i x me.0 q k
          → record_in x me.0.records ≡ Some q
          → Goes fits p s r a (slice_index s.words a) id me (reads x index (step count a 0 0 none)
          me)
      reads_on q k o called = (
        after_read x index me.0,
        keeps,
        tt,
        Some (done_of k),
        rw (word_same s.words a) (kept (done_of k) (
          (refl, refl),
          read_allowed r.world me.0.client x
              i me.0.work k (is_lawful r.world r.lawful) small (name_held fits p s r id i x me.0 q k
              o) o.at_slot (client_is fits p s r id me.0 at_view seated)
              (live_is fits p s r id me.0 at_view seated),
        ) (index == KEY1)),
        (
          refl,
          refl,
          told (record_in x me.0.records) refl so,
          rw called (ap (λ (e : Entry). Some (read_done x e me.0)) o.entry),
        ),
      )

      by : (found : Option Record) → record_in x me.0.records ≡ found
          → IsSomeAnd found (λ q. q.slot ≡ i)
          → Goes fits p s r a (slice_index s.words a) id me (reads x index (step count a 0 0 none)
          me)
      by None called so = absurd so
      by (Some q) called so =
          let there = on_some fits p s r id i x me.0 q at_view seated called so in
          reads_on q there.0 there.1 called

  -- A load by the owner of a slot tells the word that stands in its view.
  pub read_own_step : (count id i index a : ℕ) (me : Held T) → owned_slot me.0.work.owned ≡ Some i
      → is_seated me.0 ≡ true → a ≡ field_at p.geometry.room i DATA + index
      → Acts fits p count id me a (λ n. n) (reads_own index (step count a 0 0 none) me)
  unfolding met_holds
  read_own_step count id i index a me owns seated address s r homes at low =
      let at_view = read_at s.views id me.0 at in (
        me.0,
        keeps,
        tt,
        None,
        rw (word_same s.words a) (
          met_holds s r id me.0 me.0.met me.0.glimpse at_view seated
              (r.tags.each id me.0 at_view).glimpse,
          refl,
        ),
        (
          refl,
          refl,
          (λ near. ap (slice_index s.words) address
              ∙ (r.drafted id me.0 at_view).lies i owns index near),
          refl,
        ),
      )
