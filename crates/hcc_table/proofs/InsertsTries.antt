-- The tries of the probes of a key, one after the other.
use Rattle.std.proofs.Common.{◌≡◌, ℕ, ◌+◌, ◌-◌, ◌%◌, ◌^◌, ◌<◌, ◌++◌, List, [], ◌∷◌, length, subst, sym, refl, ap, ◌∙◌, bit_and, bit_or, append_assoc, arith}
use Rattle.hcc_core.specs.declared.limits.TheConstants.{MOST_SLOTS}
use Rattle.hcc_rule.specs.declared.key.Key.{Key}
use Rattle.hcc_rule.specs.declared.steps.shows.Draft.{Draft}
use Rattle.hcc_rule.specs.declared.view.View.{View}
use Rattle.hcc_rule.specs.Probes.{probe_slot, trail_to}
use Rattle.hcc_rule.specs.Seats.{SeatOf, IsSameSeat, view}
use Rattle.hcc_rule.specs.ToldTrails.{after_pass}
use Rattle.hcc_rule.proofs.Probes.ProbeLaws.{first_masked, next_masked, probe_inside, some_slots, trail_start, trail_next, trail_length}
use Rattle.hcc_table.specs.declared.inserting.Insertion.TheVariants.{Placed, Matched, NoSlot}
use Rattle.hcc_table.specs.declared.walk.Walk.{Walk}
use Rattle.hcc_table.specs.Inserted.{InsertedBy, TriedAt, Tried, with_trail}
use Rattle.hcc_table.specs.Searched.{Buried, IsBefore}
use Rattle.hcc_table.proofs.Finds.{IsAt, seat_then, buried_none, buried_more}
use Rattle.hcc_table.proofs.Inserts.{tried_refl, tried_then, trail_is, tried_pass, tried_back, tried_show}

module _ {T : Type 0} where
  -- So many probes were tried and passed, and the next one is to be tried.
  pub record IsTrying (slots : ℕ) (key : Key) (i : ℕ) (walk : Walk)
      (seat now : SeatOf T) : Type 0 where
    pub same : IsSameSeat seat now
    pub walking : IsAt slots key i walk
    pub inside : i < slots
    pub tried : Tried (with_trail (trail_to slots key (probe_slot slots key i)) (view seat))
        (view now)
    pub saw : (view now).saw ≡ (view seat).saw + i
    pub dead : Buried key (IsBefore slots key i) (view seat) (view now)

  -- The trail is as long as the probes that were passed, and a try makes it no longer.
  pub probed_long : {slots : ℕ} {key : Key} {i : ℕ} {walk : Walk} {seat now : SeatOf T} {w : View T}
      → MOST_SLOTS % slots ≡ 0 → IsTrying slots key i walk seat now → Tried (view now) w
      → length w.work.trail ≡ i
  probed_long {slots = slots} {key = key} {i = i} {seat = seat} {now = now} power s tried =
      ap (λ (z : View T). length z.work.trail) tried.same
      ∙ ap length (trail_is (view seat) s.tried)
      ∙ trail_length slots key power i s.inside

  module _ (slots : ℕ) (draft : Draft) (value : List ℕ) (power : MOST_SLOTS % slots ≡ 0) where
    -- It begins at the first probe.
    pub tries_first : {walk : Walk} {seat : SeatOf T} → walk.probe ≡ draft.key.w1
        → walk.stride ≡ bit_or draft.key.w0 1 → walk.mask ≡ slots - 1 → (view seat).work.trail ≡ []
        → IsTrying slots draft.key 0 walk seat seat
    tries_first {walk} {seat} probe stride mask none = record {
      same = record { table = refl; number = refl; slots = refl };
      walking = record {
        probe = rw (probe, mask) (first_masked slots draft.key power);
        stride = stride;
        mask = mask;
      };
      inside = some_slots slots power;
      tried = rw (trail_start slots draft.key power, ← none) (tried_refl);
      saw = omega arith;
      dead = buried_none slots draft.key (view seat) (view seat);
    }

    module _ {i slot : ℕ} {walk : Walk} {seat now : SeatOf T}
        (s : IsTrying slots draft.key i walk seat now)
        (there : slot ≡ bit_and walk.probe walk.mask) where
      abbrev trail : List ℕ
      trail = trail_to slots draft.key (probe_slot slots draft.key i)

      -- the slot that is tried
      slot_is : slot ≡ probe_slot slots draft.key i
      slot_is = there ∙ s.walking.probe

      module _ {probed : SeatOf T} (same : IsSameSeat now probed) where
        probed_same : IsSameSeat seat probed
        probed_same = seat_then seat now probed s.same same

        -- The slot was empty, and the entry is shown there.
        pub tries_placed : {at : ℕ} → TriedAt slot draft value (Placed at) (view now) (view probed)
            → (view seat).work.trail ≡ []
            → InsertedBy slots draft value (Placed at) (view seat) (view probed)
        tries_placed told none = (
          i,
          rw told.0 record {
            low = rw slot_is (probe_inside slots draft.key i (some_slots slots power));
            inside = s.inside;
            probe = slot_is;
            tried = tried_show (view seat) s.tried slot draft value told.1;
            saw = ap (λ (z : View T). z.saw) told.1 ∙ s.saw;
            dead = rw told.1 s.dead;
          },
        )

        module _ (tried : Tried (view now) (view probed)) where
          tried_all : Tried (with_trail trail (view seat)) (view probed)
          tried_all = tried_then s.tried tried

          -- The trail is taken back.
          probed_back : (new : SeatOf T) → (view seat).work.trail ≡ []
              → view new ≡ with_trail [] (view probed)
              → Tried (view seat) (view new)
          probed_back new none back = tried_back (view seat) tried_all none back

          -- One probe more was tried, and what is held there is dead.
          module _ (dead : Buried draft.key (λ s. s ≡ slot) (view now) (view probed)) where
            dead_then : Buried draft.key (IsBefore slots draft.key (i + 1)) (view seat)
                (view probed)
            dead_then =
                buried_more slots draft.key i (view seat) (view now) (view probed)
                (ap (λ (z : View T). z.records) s.tried.same) tried.dead s.dead
                (rw (← slot_is) dead)

            -- The slot is passed, and the next probe is to be tried.
            pub tries_next : {new : SeatOf T} {next : Walk}
                → i + 1 < slots → (view probed).saw ≡ (view now).saw + 1
                → IsSameSeat probed new → view new ≡ after_pass slot (view probed)
                → next.probe ≡ (walk.probe + walk.stride) % 2 ^ 64 → next.stride ≡ walk.stride
                → next.mask ≡ walk.mask → IsTrying slots draft.key (i + 1) next seat new
            tries_next {new} more saw then passed probe stride mask = record {
              same = seat_then seat probed new probed_same then;
              walking = record {
                probe =
                    rw (probe, mask, s.walking.stride, s.walking.mask)
                    (next_masked slots draft.key power i walk.probe
                    (rw (← s.walking.mask) s.walking.probe));
                stride = stride ∙ s.walking.stride;
                mask = mask ∙ s.walking.mask;
              };
              inside = more;
              tried =
                  tried_pass (view seat) tried_all slot passed (trail_next slots draft.key power i
                  more
                  ∙ ap (λ z. trail ++ z ∷ []) (sym slot_is));
              saw =
                  let first = s.saw in
                  let last = ap (λ (z : View T). z.saw) passed in
                  omega arith;
              dead = rw passed dead_then;
            }

            -- It was the last one.
            pub tries_last : (new : SeatOf T) → (view probed).saw ≡ (view now).saw + 1
                → i + 1 ≡ slots
                → (view seat).work.trail ≡ [] → view new ≡ with_trail [] (view probed)
                → InsertedBy slots draft value NoSlot (view seat) (view new)
            tries_last new saw last none back = (
              probed_back new none back,
              (let first = s.saw in
                  let same = ap (λ (z : View T). z.saw) back in
                  omega arith),
              rw back (subst (λ n. Buried draft.key (IsBefore slots draft.key n) (view seat)
                  (view probed))
                  last dead_then),
            )

        -- It shows an entry of the key, and the trail was taken back.
        pub tries_matched : (new : SeatOf T)
            → TriedAt slot draft value Matched (view now) (view probed)
            → (view seat).work.trail ≡ [] → view new ≡ with_trail [] (view probed)
            → InsertedBy slots draft value Matched (view seat) (view new)
        tries_matched new told none back = (
          probed_back told.0 new none back,
          (let first = s.saw in
              let next = told.1 in
              let same = ap (λ (z : View T). z.saw) back in
              omega arith),
          (
            s.tried.met.0 ++ told.2.0,
            ap (λ (z : View T). z.met) back ∙ told.2.1
                ∙ ap (λ z. z ++ told.2.0 ++ draft.key ∷ []) s.tried.met.1
                ∙ ap (λ z. z ++ draft.key ∷ [])
                (append_assoc (view seat).met s.tried.met.0 told.2.0),
          ),
        )
