-- What a reservation answers.
use Rattle.std.proofs.Common.{◌≡◌, ℕ, ◌+◌, ◌<◌, ◌≤◌, ◌&&◌, ◌++◌, cond, nat_lt, Bool, true, false, [], ◌∷◌, Ok, Err, sym, refl, ap, ◌∙◌, arith}
use Rattle.std.proofs.lemmas.Bool.{lt-ltb}
use Rattle.hcc_core.specs.declared.client.Place.TheVariants as places
use Rattle.hcc_core.specs.declared.setup.Setup.{Setup}
use Rattle.hcc_core.specs.Ledgers.{grant_of}
use Rattle.hcc_core.proofs.LawfulLedgers.{grant-le}
use Rattle.hcc_rule.specs.declared.view.View.{View}
use Rattle.hcc_rule.specs.Between.{IsBetweenCalls}
use Rattle.hcc_rule.specs.ToldLedgers.{after_charge, after_quit, after_usage}
use Rattle.hcc_charge.specs.declared.reserving.Reservation.TheVariants.{Reserved, NoPlace}
use Rattle.hcc_charge.specs.declared.reserving.Refused.TheVariants.{CapacityFull, OccupancyFull}
use Rattle.hcc_charge.specs.declared.swept.Swept.{Swept}
use Rattle.hcc_charge.specs.Evicted.{IsSweptFor, Sweeps}
use Rattle.hcc_charge.specs.Reserved.{Reserves, ReservedBy, asked, entered, has_cause, settled_as, short_of, still_needed}
use Rattle.hcc_charge.specs.Settled.{paid, placed_anew, settled}
use Rattle.hcc_charge.proofs.Reservings.{Asked, asks_lax, asks_strict, charges_as, lax_cause, needed_same, none_more, opened_more, quits_as, reserves, settles_as, strict_cause, tight_is, untaken}

module _ {T : Type 0} (had has : Bool) (setup : Setup) (slots capacity charge used : ℕ)
    (full : Bool) (swept : Swept) (v : View T) {u a b : View T} (idle : IsBetweenCalls v.work)
    (enters : u ≡ entered full v)
    (s : Sweeps swept.turns swept.slots swept.charge a b) where
  -- Without strict capacity:
  module _ (lax : setup.strict ≡ false) (some : 0 < charge) (loads : a ≡ after_usage used u)
      (evicts : IsSweptFor had has slots (asked false capacity charge full used) swept) where
    abbrev lent : Asked false capacity charge v a
    lent = asks_lax full capacity used charge v u a idle enters loads

    lax_why : nat_lt 0 swept.turns ≡ (had && has_cause false capacity charge full used)
    lax_why = evicts.made ∙ ap (λ b. had && b) (lax_cause capacity charge used full some)

    -- no place was found;
    pub lax_refused : (w : View T) → full ≡ true → swept.slots ≡ 0 → w ≡ after_quit b
        → ReservedBy had has slots capacity false charge (Ok NoPlace) v w
    lax_refused w is none quits = (
      reserves swept idle lent s slots places.Absent 0 w left lax_why evicts,
      refl,
      opened_more swept idle lent s slots places.Absent 0 w left is,
      untaken swept idle lent s slots places.Absent 0 w left none,
    )
      where
        bare : swept.charge ≡ 0
        bare = let least = evicts.modest.charge in omega arith

        left : w ≡ settled_as places.Absent 0 b
        left = quits_as swept idle lent s bare refl refl w quits

    -- a place and the charge are granted.
    pub lax_reserved : (found : ℕ) (c d w : View T) → (full ≡ true → 0 < swept.slots)
        → c ≡ placed_anew b → d ≡ after_charge setup charge found c → w ≡ paid d
        → ReservedBy had has slots capacity false charge (Ok Reserved) v w
    lax_reserved found c d w placed anew charges pays = (
      reserves swept idle lent s slots places.Granted charge w left lax_why evicts,
      placed,
      omega arith,
    )
      where
        left : w ≡ settled_as places.Granted charge b
        left = charges_as swept idle lent s setup found c d w lax placed anew charges pays

  -- Under it:
  module _ (strict : setup.strict ≡ true) (same : setup.capacity ≡ capacity)
      (charges : a ≡ after_charge setup charge used u)
      (evicts : IsSweptFor had has slots (asked true capacity charge full used) swept) where
    abbrev ask : Asked true capacity charge v a
    ask = asks_strict setup full capacity used charge v u a strict same enters charges

    whole : grant_of setup used charge + still_needed capacity used charge ≡ charge
    whole =
        let within = grant-le setup used charge in
        let needed = needed_same setup capacity used charge strict same in
        omega arith

    strict_why : nat_lt 0 swept.turns ≡ (had && has_cause true capacity charge full used)
    strict_why = evicts.made ∙ ap (λ b. had && b) (strict_cause capacity charge used full)

    -- A refusal:
    module _ (w : View T) (left : w ≡ settled_as places.Absent 0 b) where
      tight : w.tight ≡ v.tight ++ short_of (still_needed capacity used charge) charge
      tight = tight_is swept idle ask s slots places.Absent 0 w left

      abbrev refused : Reserves had has slots capacity true charge places.Absent 0 v w
      refused = reserves swept idle ask s slots places.Absent 0 w left strict_why evicts

      -- too little charge was freed;
      pub strict_short : swept.charge < still_needed capacity used charge
          → ReservedBy had has slots capacity true charge (Err CapacityFull) v w
      strict_short lacks = (refused, refl, tight ∙ joined, lacks)
        where
          joined : v.tight ++ short_of (still_needed capacity used charge) charge
              ≡ v.tight ++ charge ∷ []
          joined =
              ap (λ b. v.tight ++ cond b (charge ∷ []) [])
              (lt-ltb 0 (still_needed capacity used charge) (omega arith))

      -- no slot was freed.
      pub strict_full : full ≡ true → swept.slots ≡ 0
          → still_needed capacity used charge ≤ swept.charge
          → ReservedBy had has slots capacity true charge (Err OccupancyFull) v w
      strict_full is none enough = (
        refused,
        refl,
        opened_more swept idle ask s slots places.Absent 0 w left is,
        untaken swept idle ask s slots places.Absent 0 w left none,
        tight ∙ unjoined,
      )
        where
          needless : still_needed capacity used charge ≡ 0
          needless = let least = evicts.modest.charge in omega arith

          unjoined : v.tight ++ short_of (still_needed capacity used charge) charge ≡ v.tight
          unjoined = ap (λ n. v.tight ++ short_of n charge) needless ∙ sym (none_more v.tight)

    -- What was needed was freed, and so was a place.
    pub strict_reserved : (w : View T) → (full ≡ true → 0 < swept.slots)
        → still_needed capacity used charge ≤ swept.charge → w ≡ settled b
        → ReservedBy had has slots capacity true charge (Ok Reserved) v w
    strict_reserved w placed enough settles = (
      reserves swept idle ask s slots places.Granted charge w left strict_why evicts,
      placed,
      enough,
    )
      where
        left : w ≡ settled_as places.Granted charge b
        left = settles_as swept idle ask s w whole placed settles
