-- What a seat does while it only loads words of slots.
use Rattle.std.proofs.Common.{◌≡◌, true, [], ◌∷◌, ◌++◌, refl}
use Rattle.hcc_core.specs.declared.event.Event.{Event}
use Rattle.hcc_core.specs.declared.event.Event.TheVariants as events
use Rattle.hcc_rule.specs.declared.table.RuleTable.{RuleTable}
use Rattle.hcc_rule.specs.declared.view.Done.{Done}
use Rattle.hcc_rule.specs.Callers.{IsEvent}
use Rattle.hcc_rule.specs.Seats.{SeatOf}
use Rattle.hcc_rule.proofs.Basics.Lists.{each_append, each_map}
use Rattle.hcc_table.specs.Optimistic.{OnlyLoads, is_load}
use Rattle.hcc_table.specs.Seeking.{Seeks, is_seeking}
use Rattle.hcc_table.proofs.Seeking.{does_then}

-- a load is a step of a search
load_seeks : (event : Event) → is_load event ≡ true → is_seeking event ≡ true
load_seeks (events.Look client slot) is = refl
load_seeks (events.Peek client slot) is = refl
load_seeks (events.Count client slot) is = refl
load_seeks other is = cc

module _ {T A : Type 0} (table : RuleTable T A) where
  -- loads are a search
  pub loads_seek : (a b : SeatOf T) → OnlyLoads table a b → Seeks table a b
  loads_seek a b h = record {
    own = h.own;
    does = h.does;
    only = each_map (λ (done : Done). is_load done.event ≡ true)
        (λ (done : Done). is_seeking done.event ≡ true)
        (λ done. load_seeks done.event) h.own h.only;
  }

  -- nothing was done
  pub loads_none : (a : SeatOf T) → OnlyLoads table a a
  loads_none a = record { own = []; does = refl; only = tt }

  -- one load
  pub loads_one : {done : Done} {a b : SeatOf T} → IsEvent table done a b
      → is_load done.event ≡ true → OnlyLoads table a b
  loads_one {done} {a} {b} event load =
      record { own = done ∷ []; does = (b, event, refl); only = (load, tt) }

  -- some loads and then others
  pub loads_then : (a b c : SeatOf T) → OnlyLoads table a b → OnlyLoads table b c
      → OnlyLoads table a c
  loads_then a b c h g = record {
    own = h.own ++ g.own;
    does = does_then table h.own g.own a b c h.does g.does;
    only = each_append (λ (done : Done). is_load done.event ≡ true) h.own g.own h.only g.only;
  }
