-- A search over the probes of a key, one after the other.
use Rattle.std.proofs.Common.{◌≡◌, ℕ, ◌+◌, ◌-◌, ◌%◌, ◌^◌, ◌<◌, ◌≤◌, true, inl, inr, List, [], ◌∷◌, sym, subst, refl, ap, ◌∙◌, bit_and, bit_or, eq-or-lt_of_le, arith}
use Rattle.hcc_core.specs.World.{times}
use Rattle.hcc_core.specs.Lawful.{is_in}
use Rattle.hcc_rule.specs.declared.key.Key.{Key}
use Rattle.hcc_core.specs.declared.limits.TheConstants.{MOST_SLOTS}
use Rattle.hcc_rule.specs.declared.view.Record.{Record}
use Rattle.hcc_rule.specs.declared.view.View.{View}
use Rattle.hcc_rule.specs.Probes.{probe_slot, trail_to}
use Rattle.hcc_rule.specs.Seats.{SeatOf, IsSameSeat, view}
use Rattle.hcc_rule.specs.Views.{Each}
use Rattle.hcc_rule.specs.Words.{key_of}
use Rattle.hcc_rule.proofs.Probes.ProbeLaws.{probe_of_slot, stands_within, first_masked, next_masked}
use Rattle.hcc_table.specs.declared.walk.Walk.{Walk}
use Rattle.hcc_table.specs.Searched.{Grows, Sought, Buried, AllDead, IsBefore, IsMissed}
use Rattle.hcc_table.proofs.Searches.{sought_then, searched_refl}

-- a walk stands at this probe of a key
pub record IsAt (slots : ℕ) (key : Key) (i : ℕ) (walk : Walk) : Type 0 where
  pub probe : bit_and walk.probe walk.mask ≡ probe_slot slots key i
  pub stride : walk.stride ≡ bit_or key.w0 1
  pub mask : walk.mask ≡ slots - 1

-- what holds of the facts of two lists at once
each_both : {A : Type 0} (P Q R : A → Type 0) → ((a : A) → P a → Q a → R a) → (xs : List A)
    → Each P xs → Each Q xs → Each R xs
each_both P Q R f [] h g = tt
each_both P Q R f (x ∷ xs) h g = (f x h.0 g.0, each_both P Q R f xs h.1 g.1)

module _ {T : Type 0} where
  pub seat_then : (a b c : SeatOf T) → IsSameSeat a b → IsSameSeat b c → IsSameSeat a c
  seat_then a b c h g = record {
    table = g.table ∙ h.table;
    number = g.number ∙ h.number;
    slots = g.slots ∙ h.slots;
  }

  -- What a search has done once it saw the first so many probes.
  pub record IsSearching (slots : ℕ) (key : Key) (i : ℕ) (walk : Walk)
      (seat new : SeatOf T) : Type 0 where
    pub same : IsSameSeat seat new
    pub sought : Sought (view seat) (view new)
    pub walking : IsAt slots key i walk
    pub buried : Buried key (IsBefore slots key i) (view seat) (view new)
    pub within : 0 < i → Each (λ (r : Record). r.slot < slots) (view seat).records

  -- none was seen yet
  pub buried_none : (slots : ℕ) (key : Key) (v w : View T) → Buried key (IsBefore slots key 0) v w
  buried_none slots key v w = from v.records
    where
      from : (rs : List Record)
          → Each (λ (r : Record). key_of r.entry ≡ key → IsBefore slots key 0 r.slot
          → is_in r.entry.stamp w.work.dead ≡ true) rs
      from [] = tt
      from (r ∷ rs) = ((λ asked before. (let low = before.1 in absurd (omega arith))), from rs)

  -- a probe more
  pub buried_more : (slots : ℕ) (key : Key) (i : ℕ) (u v w : View T) → v.records ≡ u.records
      → Grows v.work.dead w.work.dead
      → Buried key (IsBefore slots key i) u v → Buried key (λ s. s ≡ probe_slot slots key i) v w
      → Buried key (IsBefore slots key (i + 1)) u w
  buried_more slots key i u v w first then old here =
      each_both
      (λ (r : Record). key_of r.entry ≡ key → IsBefore slots key i r.slot
      → is_in r.entry.stamp v.work.dead ≡ true)
      (λ (r : Record). key_of r.entry ≡ key → r.slot ≡ probe_slot slots key i
      → is_in r.entry.stamp w.work.dead ≡ true)
      (λ (r : Record). key_of r.entry ≡ key → IsBefore slots key (i + 1) r.slot
      → is_in r.entry.stamp w.work.dead ≡ true)
      (λ r before now asked passed. by r asked before now passed.0 passed.1 passed.2) u.records old
      (rw (← first) here)
    where
      by : (r : Record) → key_of r.entry ≡ key
          → (key_of r.entry ≡ key → IsBefore slots key i r.slot
          → is_in r.entry.stamp v.work.dead ≡ true)
          → (key_of r.entry ≡ key → r.slot ≡ probe_slot slots key i
          → is_in r.entry.stamp w.work.dead ≡ true)
          → (j : ℕ) → j < i + 1 → probe_slot slots key j ≡ r.slot
          → is_in r.entry.stamp w.work.dead ≡ true
      by r asked before now j low at =
          elim (eq-or-lt_of_le (let most : j ≤ i = omega arith in most)) [
            | inl same ↦ now asked (sym at ∙ ap (probe_slot slots key) same)
            | inr less ↦ then r.entry.stamp (before asked (j, less, at))
          ]

  -- Where no trail goes on, each entry of the key that is held stands at a probe that was seen.
  pub ended : (slots : ℕ) (key : Key) → MOST_SLOTS % slots ≡ 0 → (i : ℕ) {n : ℕ} (v w : View T)
      → n ≡ 0
      → Buried key (IsBefore slots key (i + 1)) v w
      → Each (λ (r : Record). times (probe_slot slots key i)
      (trail_to slots (key_of r.entry) r.slot) ≤ n) v.records
      → Each (λ (r : Record). r.slot < slots) v.records
      → AllDead key v w
  ended slots key power i {n} v w zero buried held within =
      each_both
      (λ (r : Record). key_of r.entry ≡ key → IsBefore slots key (i + 1) r.slot
      → is_in r.entry.stamp w.work.dead ≡ true)
      (λ (r : Record). (times (probe_slot slots key i) (trail_to slots (key_of r.entry) r.slot) ≤ n)
      × (r.slot < slots))
      (λ (r : Record). key_of r.entry ≡ key → is_in r.entry.stamp w.work.dead ≡ true)
      (λ r dead passed asked. dead asked (seen r asked passed.0 passed.1)) v.records buried
      (each_both _ _ _ (λ r a b. (a, b)) v.records held within)
    where
      seen : (r : Record) → key_of r.entry ≡ key
          → times (probe_slot slots key i) (trail_to slots (key_of r.entry) r.slot) ≤ n
          → r.slot < slots
          → IsBefore slots key (i + 1) r.slot
      seen r asked few low =
          let none : times (probe_slot slots key i) (trail_to slots key r.slot) ≡ 0 =
          (let same = ap (λ k. times (probe_slot slots key i) (trail_to slots k r.slot)) asked in
          omega arith) in
          let at = stands_within slots key power r.slot i low none in
          (at.0, (let least = at.1 in omega arith), at.2)

  -- After all probes none is left.
  pub all_seen : (slots : ℕ) (key : Key) → MOST_SLOTS % slots ≡ 0 → (v w : View T)
      → Buried key (IsBefore slots key slots) v w → Each (λ (r : Record). r.slot < slots) v.records
      → AllDead key v w
  all_seen slots key power v w buried within =
      each_both
      (λ (r : Record). key_of r.entry ≡ key → IsBefore slots key slots r.slot
      → is_in r.entry.stamp w.work.dead ≡ true)
      (λ (r : Record). r.slot < slots)
      (λ (r : Record). key_of r.entry ≡ key → is_in r.entry.stamp w.work.dead ≡ true)
      (λ r dead low asked. dead asked (probe_of_slot slots key power r.slot low)) v.records buried
      within

  module _ (slots : ℕ) (key : Key) (power : MOST_SLOTS % slots ≡ 0) where
    -- A search begins.
    pub begins : (walk : Walk) (seat : SeatOf T) → walk.probe ≡ key.w1
        → walk.stride ≡ bit_or key.w0 1
        → walk.mask ≡ slots - 1 → IsSearching slots key 0 walk seat seat
    begins walk seat probe stride mask = record {
      same = record { table = refl; number = refl; slots = refl };
      sought = searched_refl (view seat);
      walking = record {
        probe = rw (probe, mask) (first_masked slots key power);
        stride = stride;
        mask = mask;
      };
      buried = buried_none slots key (view seat) (view seat);
      within = λ some. absurd (omega arith);
    }

  module _ {slots : ℕ} {key : Key} {i slot : ℕ} {walk : Walk} {seat now : SeatOf T}
      (s : IsSearching slots key i walk seat now) (there : slot ≡ bit_and walk.probe walk.mask)
    where
      -- the slot that is probed
      pub slot_is : slot ≡ probe_slot slots key i
      slot_is = there ∙ s.walking.probe

      module _ (power : MOST_SLOTS % slots ≡ 0) (n : ℕ) {probed counted : SeatOf T}
          (same : IsSameSeat now probed) (same_then : IsSameSeat probed counted) (missed : Sought
          (view now) (view probed)
          × Buried key (λ z. z ≡ slot) (view now) (view probed)) (kept : view counted ≡ view probed)
          (held : Each (λ (r : Record). times slot (trail_to slots (key_of r.entry) r.slot) ≤ n)
          (view probed).records)
          (within : Each (λ (r : Record). r.slot < slots) (view probed).records) where
        sought : Sought (view seat) (view counted)
        sought = rw kept (sought_then _ _ _ s.sought missed.0)

        records_are : (view probed).records ≡ (view seat).records
        records_are = missed.0.records ∙ s.sought.records

        more : Buried key (IsBefore slots key (i + 1)) (view seat) (view counted)
        more = rw kept (buried_more slots key i (view seat) (view now) (view probed)
            s.sought.records missed.0.searched.dead s.buried (rw (← slot_is) missed.1))

        low : Each (λ (r : Record). r.slot < slots) (view seat).records
        low = rw (← records_are) within

        -- It goes on to the next probe.
        pub goes_on : {next : Walk} → next.probe ≡ (walk.probe + walk.stride) % 2 ^ 64
            → next.stride ≡ walk.stride
            → next.mask ≡ walk.mask → IsSearching slots key (i + 1) next seat counted
        goes_on probe stride mask = record {
          same = seat_then seat now counted s.same (seat_then now probed counted same same_then);
          sought = sought;
          walking = record {
            probe =
                rw (probe, mask, s.walking.stride, s.walking.mask)
                (next_masked slots key power i walk.probe (rw (← s.walking.mask) s.walking.probe));
            stride = stride ∙ s.walking.stride;
            mask = mask ∙ s.walking.mask;
          };
          buried = more;
          within = λ some. low;
        }

        -- It ends where no trail goes on.
        pub ends : n ≡ 0 → IsMissed key (view seat) (view counted)
        ends zero = record {
          sought = sought;
          dead = ended slots key power i (view seat) (view counted) zero more
              (rw (← records_are, ← slot_is) held) low;
        }

  -- It ends after all probes.
  pub ends_all : {slots : ℕ} {key : Key} → MOST_SLOTS % slots ≡ 0 → {i : ℕ} {walk : Walk}
      {seat now : SeatOf T} → 0 < slots → slots ≤ i → i ≤ slots
      → IsSearching slots key i walk seat now → IsMissed key (view seat) (view now)
  ends_all {slots} {key} power {i} {walk} {seat} {now} some least most s =
      let same : i ≡ slots = omega arith in
      record {
        sought = s.sought;
        dead = all_seen slots key power (view seat) (view now)
            (subst (λ z. Buried key (IsBefore slots key z) (view seat) (view now)) same s.buried)
            (s.within (omega arith));
      }
