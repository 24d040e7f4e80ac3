use Rattle.std.proofs.Common.{◌≡◌, ◌&&◌, Bool, true, false, nat_lt, map, sym, refl, ap, ◌∙◌, arith}
use Rattle.std.proofs.lemmas.Bool.{lt-ltb}
use Rattle.hcc_table.specs.Lists.{as_freed}
use Rattle.hcc_table.proofs.Handed.{room_before}
use Rattle.hcc_charge.specs.Evicted.{turn_room}
use Rattle.hcc_charge.proofs.reserving.evict_for.Goals as goal

pub returns-then-ask-eq0-clause-evicts : goal.returns-then-ask-eq0-clause-evicts
returns-then-ask-eq0-clause-evicts g c = record {
  none = λ is. (refl, refl);
  full = λ is. (refl, refl);
  some = λ more. absurd (let none = c.if-ask-eq0.true in omega arith);
}

pub returns-then-ask-eq0-clause-swept : goal.returns-then-ask-eq0-clause-swept
returns-then-ask-eq0-clause-swept g c = record {
  few = omega arith;
  modest = record {
    slots = omega arith;
    charge = omega arith;
    hits = omega arith;
    pinned = omega arith;
    lost = omega arith;
  };
  made =
      sym (never (turn_room (g.L.FreedList.shelf c.args.list.now)))
      ∙ ap (λ n. turn_room (g.L.FreedList.shelf c.args.list.now) && nat_lt 0 n)
      (sym c.if-ask-eq0.true);
  ends = λ more. absurd (let none = c.if-ask-eq0.true in omega arith);
}
  where
    never : (b : Bool) → (b && false) ≡ false
    never true = refl
    never false = refl

pub returns-clause-evicts : goal.returns-clause-evicts
returns-clause-evicts g c = record {
  none = λ is. absurd (let some = c.if-ask-eq0.false in omega arith);
  full = c.evict.ensures.full;
  some = λ more room. c.evict.ensures.evicts room;
}

pub returns-clause-swept : goal.returns-clause-swept
returns-clause-swept g c = record {
  few = c.evict.ensures.turns.1;
  modest = c.evict.ensures.modest;
  made = made (turn_room (g.L.FreedList.shelf c.args.list.now)) refl;
  ends = λ more last. (c.evict.ensures.evicts (room_before 4
      (map as_freed c.evict.ensures.list.these) (g.L.FreedList.shelf c.args.list.now)
      (g.L.FreedList.shelf c.evict.new.list) c.evict.ensures.list.puts last)).ends last;
}
  where
    made : (b : Bool) → turn_room (g.L.FreedList.shelf c.args.list.now) ≡ b
        → nat_lt 0 c.evict.result.turns ≡ (b && nat_lt 0 c.args.ask)
    made true room =
        lt-ltb 0 c.evict.result.turns (let some = c.evict.ensures.turns.0 room in omega (
          arith,
          some,
        ))
        ∙ sym (lt-ltb 0 c.args.ask (let some = c.if-ask-eq0.false in omega (arith, some)))
    made false none = ap (λ z. nat_lt 0 z.turns) (c.evict.ensures.full none).0
