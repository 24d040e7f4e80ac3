-- A step on a meta word that changes who owns a slot with no entry.
use Rattle.std.proofs.Common.{◌≡◌, ℕ, true, List, [], Some, None, Ok, length, slice_get, slice_set, sym, refl, ap, ◌∙◌, arith, inl}
use Rattle.hcc_core.specs.declared.event.Event.{Event}
use Rattle.hcc_core.specs.declared.event.Reply.{Reply}
use Rattle.hcc_core.specs.declared.client.Client.{Client}
use Rattle.hcc_core.specs.declared.client.Owned.TheVariants as owned
use Rattle.hcc_core.specs.declared.slot.Reference.{Reference}
use Rattle.hcc_core.specs.declared.slot.Stamp.{Stamp}
use Rattle.hcc_core.specs.declared.slot.Slot.{Slot}
use Rattle.hcc_core.specs.declared.slot.Slot.TheVariants as slots
use Rattle.hcc_core.specs.Sums.{total}
use Rattle.hcc_core.specs.World.{references_of, taken_by_slot, charge_of, trail_of, charged_to, occupied_by, standing_of, times}
use Rattle.hcc_core.specs.Outcomes.{with_both}
use Rattle.hcc_core.specs.Steps.{outcome_of}
use Rattle.hcc_rule.specs.declared.key.Key.{Key}
use Rattle.hcc_rule.specs.declared.rule.Plan.{Plan}
use Rattle.hcc_rule.specs.declared.view.Record.{Record}
use Rattle.hcc_rule.specs.declared.view.View.{View}
use Rattle.hcc_rule.specs.Views.{is_seated, held}
use Rattle.hcc_rule.specs.Rule.{entry_by, list_weighs, slot_weighs, taken_weigh, IsRecorded, IsTrailed, Holds}
use Rattle.hcc_rule.proofs.Basics.Lists.{each_map}
use Rattle.hcc_rule.proofs.Parts.ViewParts.{recorded_kept}
use Rattle.hcc_rule.proofs.Parts.SlotSteps.{Shard, SameName, SlotStep}
use Rattle.hcc_rule.proofs.Parts.WorldParts.{given_kept, made_grows}
use Rattle.hcc_rule.proofs.Parts.Tags.{stamp_kept}
use Rattle.hcc_rule.proofs.Parts.Touches.{client_is, live_is, stamps_are, was_right, book_is}
use Rattle.hcc_core.proofs.ListLemmas.{set_same}
use Rattle.hcc_rule.specs.Words.{code_of}

-- a slot with no entry has no references, no trail, no charge and no place
pub record IsBare (t : Slot) : Type 0 where
  pub references : references_of t ≡ []
  pub trail : trail_of t ≡ []
  pub charge : charge_of t ≡ 0
  pub taken : taken_by_slot t ≡ 0
  pub weight : (h : Stamp → ℕ) → slot_weighs h t ≡ 0

pub is_bare : (t : Slot) → entry_by t ≡ None → IsBare t
is_bare (slots.Empty strays) none =
    record { references = refl; trail = refl; charge = refl; taken = refl; weight = λ h. refl }
is_bare (slots.Building client strays) none =
    record { references = refl; trail = refl; charge = refl; taken = refl; weight = λ h. refl }
is_bare (slots.Shareable r) none = cc

pub trailed_bare : (size i : ℕ) (t : Slot) → entry_by t ≡ None → IsTrailed size i t
trailed_bare size i (slots.Empty strays) none = tt
trailed_bare size i (slots.Building client strays) none = tt
trailed_bare size i (slots.Shareable r) none = cc

-- of what is in hand, the slot that is owned may differ
abbrev pub SameButOwned : Client → Client → Type 0
SameButOwned old new = new ≡ record old { owned = new.owned }

-- the view keeps its records, what it made and what it took, and begins anew to write
pub record StartsAnew {T : Type 0} (v new : View T) : Type 0 where
  pub records : new.records ≡ v.records
  pub made : new.made ≡ v.made
  pub takings : new.takings ≡ v.takings
  pub gone : new.gone ≡ v.gone
  pub written : new.written ≡ []

module _ {T : Type 0} (fits : T → Key → List ℕ → Type 0) (p : Plan T) where
  -- What such a step owes.
  pub record Owning (s : Shard fits p) (r : Holds fits p s) (id i : ℕ) (v new : View T)
      (t left : Slot) (event : Event) (reply : Reply) : Type 0 where
    pub at_view : slice_get s.views id ≡ Some v
    pub at_slot : slice_get r.world.slots i ≡ Some t
    pub seated : is_seated v ≡ true
    pub same : SameName fits p v new
    pub work : SameButOwned v.work new.work
    pub store : StartsAnew v new
    pub allowed : outcome_of r.world event ≡ Ok (reply, with_both r.world i left v.client new.work)
    pub bare : entry_by t ≡ None
    pub left_bare : entry_by left ≡ None
    pub free : (slot : ℕ) → v.work.owned ≡ owned.ForBuilding slot → ⊥

  pub owned_step : (s : Shard fits p) (r : Holds fits p s) (id i : ℕ) (v new : View T)
      (t left : Slot) (event : Event) (reply : Reply)
      → Owning s r id i v new t left event reply → SlotStep fits p s r id i v new t left event reply
  owned_step s r id i v new t left event reply m = record {
    at_view = m.at_view;
    at_slot = m.at_slot;
    seated = m.seated;
    same = m.same;
    live = ap (λ (c : Client). c.live) m.work ∙ live_is fits p s r id v m.at_view m.seated;
    allowed = m.allowed;
    grows = λ n made there. ap (λ l. slice_get l n) m.store.made ∙ there;
    stored = λ entry is. let bad : None ≡ Some entry = sym m.left_bare ∙ is in cc;
    drafted = record {
      short = rw m.store.written (omega arith);
      lies = λ j owns k low. let none : length new.written ≡ 0 =
          ap length m.store.written in absurd (omega arith);
    };
    here = λ h.
        let was : total h (references_of t) ≡ 0 = ap (total h) before.references in
        let now : total h (references_of left) ≡ 0 = ap (total h) later.references in
        let kept = held_same i h in
        omega arith;
    elsewhere = λ j h other. held_same j h;
    holding =
        let old = r.holding id v m.at_view in
        record {
          recorded = rw m.store.records (each_map (IsRecorded r.world.slots)
              (IsRecorded (slice_set r.world.slots i left)) kept v.records old.recorded);
          once = rw m.store.records old.once;
          few = rw m.store.records old.few;
        };
    recorded = λ j u other there.
        each_map (IsRecorded r.world.slots) (IsRecorded (slice_set r.world.slots i left)) kept
        u.records (r.holding j u there).recorded;
    counted = ap (λ (c : Client). c.stamps) m.work
        ∙ (stamps_are fits p s r id v m.at_view m.seated ∙ ap length (sym m.store.made));
    right = λ n made there. was_right fits p s r id v m.at_view m.seated n made
        (ap (λ l. slice_get l n) (sym m.store.made) ∙ there);
    paid =
        let was = before.taken in
        let now = later.taken in
        let takings = m.store.takings in
        let made = ap length m.store.made in
        omega arith;
    weighs = λ h.
        let was = before.weight h in
        let now = later.weight h in
        let gone = ap (taken_weigh h) m.store.gone in
        let made = ap (list_weighs h v.client 0) m.store.made in
        omega arith;
    given = given_kept r.books (slice_set r.books v.client new.made) v new
        (made_grows r.books v.client v.made new.made (book_is fits p s r id v m.at_view m.seated)
        (λ n made there. ap (λ l. slice_get l n) m.store.made ∙ there))
        m.store.takings m.store.gone (r.stamps.given id v m.at_view);
    usage =
        let was = before.charge in
        let now = later.charge in
        let hand : charged_to new.work ≡ charged_to v.work = ap charged_to m.work in
        omega arith;
    occupancy =
        let was = before.taken in
        let now = later.taken in
        let hand : occupied_by new.work ≡ occupied_by v.work = ap occupied_by m.work in
        omega arith;
    standing = ap standing_of m.work;
    modest =
        let old = r.ledgers.modest v.client v.work client in
        rw m.work record { asked = old.asked; freed = old.freed; few = old.few; small = old.small };
    passed = λ j.
        let was : times j (trail_of t) ≡ 0 = ap (times j) before.trail in
        let now : times j (trail_of left) ≡ 0 = ap (times j) later.trail in
        let hand : times j new.work.trail ≡ times j v.work.trail =
        ap (λ (c : Client). times j c.trail) m.work in
        omega arith;
    trailed = trailed_bare p.geometry.slots i left m.left_bare;
    tags =
        let old = r.tags.each id v m.at_view in
        record {
          made = λ stamp made h. rw books_same h;
          apart = λ c. rw books_same (r.tags.apart c);
          kept = λ slot word builds. absurd (m.free slot builds.0);
          next = λ slot word builds.
              let none : length new.written ≡ 0 = ap length m.store.written in
              absurd (let some = builds.1 in omega arith);
          word = λ slot low. inl (stamp_kept p.geometry.room i (code_of left) s.words slot);
          looked = rw (ap (λ (c : Client). c.looked) m.work) old.looked;
          glimpse = rw m.same.glimpse old.glimpse;
        };
  }
    where
      before : IsBare t
      before = is_bare t m.bare

      books_same : slice_set r.books v.client new.made ≡ r.books
      books_same = rw m.store.made
          (set_same r.books v.client v.made (book_is fits p s r id v m.at_view m.seated))

      later : IsBare left
      later = is_bare left m.left_bare

      client : slice_get r.world.clients v.client ≡ Some v.work
      client = client_is fits p s r id v m.at_view m.seated

      held_same : (j : ℕ) (h : Reference → ℕ) → held j h new ≡ held j h v
      held_same j h = rw (m.store.records, m.same.client) refl

      kept : (k : Record) → IsRecorded r.world.slots k
          → IsRecorded (slice_set r.world.slots i left) k
      kept = recorded_kept r.world.slots i t left m.at_slot (m.left_bare ∙ sym m.bare)
