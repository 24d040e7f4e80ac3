-- What a reservation found, and what it evicted for that.
use Rattle.std.proofs.Common.{◌≡◌, ℕ, ◌+◌, ◌-◌, ◌≤◌, Bool, true, false, List, ◌++◌, length, sym, subst, ap, ◌∙◌, arith}
use Rattle.std.proofs.lemmas.List.{append-nil, nil_from_length}
use Rattle.hcc_core.specs.Sums.{when}
use Rattle.hcc_core.specs.World.{charged_to, occupied_by, standing_of}
use Rattle.hcc_rule.specs.declared.key.Key.{Key}
use Rattle.hcc_rule.specs.declared.layout.TheConstants.{USAGE}
use Rattle.hcc_rule.specs.declared.table.RuleTable.{RuleTable}
use Rattle.hcc_rule.specs.declared.view.View.{View}
use Rattle.hcc_rule.specs.Between.{IsBetweenCalls}
use Rattle.hcc_rule.specs.Callers.{capacity_of, clients_of, is_strict, plan_of, slots_of, IsEvent}
use Rattle.hcc_rule.specs.Addresses.{address_of_ledger}
use Rattle.hcc_rule.specs.Events.{enter_done}
use Rattle.hcc_rule.specs.Gone.{Takes}
use Rattle.hcc_rule.specs.Rule.{setup_of}
use Rattle.hcc_rule.specs.Seats.{SeatOf, Makes, view}
use Rattle.hcc_rule.specs.Views.{charge_made}
use Rattle.hcc_rule.proofs.Gone.{takes_alike}
use Rattle.hcc_table.specs.declared.efforts.Effort.{Effort}
use Rattle.hcc_table.specs.Efforts.{Lost}
use Rattle.hcc_table.specs.Seeking.{GoesOnBy, is_booking}
use Rattle.hcc_charge.specs.declared.swept.Swept.{Swept}
use Rattle.hcc_charge.specs.declared.tally.Tally.{Tally}
use Rattle.hcc_charge.specs.Asked.{added, is_full, lacked, Enters, EvictsAsAsked, EvictsNothing, FindsBy}
use Rattle.hcc_charge.specs.Evicted.{EvictsFor, IsSweptFor, Sweeps, sweeping}
use Rattle.hcc_charge.specs.Reserved.{ask_of, asked, at_least_one, entered, needed_by, still_needed, sweeping_between}
use Rattle.hcc_charge.specs.Swept.{Tallied}

module _ {T : Type 0} where
  -- Nothing is evicted where a view counts what it counted,
  pub keeps_by : (x w v : View T) → w ≡ x → x.turns ≡ v.turns → x.takings ≡ v.takings
      → x.gone ≡ v.gone → x.open_places ≡ v.open_places → EvictsNothing v w
  keeps_by x w v same turns takings gone opened = record {
    turns = ap (λ (z : View T). z.turns) same ∙ turns;
    takings = ap (λ (z : View T). z.takings) same ∙ takings;
    gone = ap (λ (z : View T). z.gone) same ∙ gone;
    opened = ap (λ (z : View T). z.open_places) same ∙ opened;
  }

  -- and nothing by one step after another.
  pub keeps_then : (u v w : View T) → EvictsNothing u v → EvictsNothing v w → EvictsNothing u w
  keeps_then u v w a b = record {
    turns = b.turns ∙ a.turns;
    takings = b.takings ∙ a.takings;
    gone = b.gone ∙ a.gone;
    opened = b.opened ∙ a.opened;
  }

  -- Where no entry was taken the list of those that were is what it was.
  pub none_taken : {slots charge : ℕ} {v w : View T} → slots ≡ 0 → Takes slots charge v w
      → w.gone ≡ v.gone
  none_taken {v = v} none took =
      took.gone ∙ (ap (λ l. v.gone ++ l) (nil_from_length took.these (took.count ∙ none))
      ∙ append-nil v.gone)

  -- The steps of the turns that a view counts are those of the turns that were made.
  pub between_is : (slots turns taken : ℕ) (v w : View T) → w.turns ≡ v.turns + turns
      → w.takings ≡ v.takings + taken → sweeping_between slots v w ≡ sweeping slots turns taken
  between_is slots turns taken v w more others = λ k. sweeping slots (by_turns k) (by_takings k)
    where
      by_turns : w.turns - v.turns ≡ turns
      by_turns = omega arith

      by_takings : w.takings - v.takings ≡ taken
      by_takings = omega arith

-- What the code asks eviction for is what is asked for, without strict capacity
pub asked_lax : {capacity given ask least : ℕ} (used charge : ℕ) (full : Bool) → given ≡ capacity
    → ask ≡ ask_of given used charge → least ≡ at_least_one full ask
    → least ≡ asked false capacity charge full used
asked_lax used charge full within is at_least =
    at_least ∙ ap (at_least_one full) (is ∙ ap (λ n. ask_of n used charge) within)

-- and under it.
pub asked_strict : {capacity given needed least : ℕ} (used charge : ℕ) (full : Bool)
    → given ≡ capacity → needed ≡ still_needed given used charge
    → least ≡ at_least_one full needed → least ≡ asked true capacity charge full used
asked_strict used charge full within is at_least =
    at_least ∙ ap (at_least_one full) (is ∙ ap (λ n. still_needed n used charge) within)

module _ {T A : Type 0} (table : RuleTable T A) (charge used : ℕ) where
  -- what is lacked under strict capacity,
  pub lacked_strict : is_strict table ≡ true
      → lacked table charge used ≡ still_needed (capacity_of table) used charge
  lacked_strict strict = ap (λ s. needed_by s (capacity_of table) used charge) strict

  -- and without it
  pub lacked_lax : is_strict table ≡ false → lacked table charge used ≡ 0
  lacked_lax lax = ap (λ s. needed_by s (capacity_of table) used charge) lax

module _ {T A : Type 0} (fits : T → Key → List ℕ → Type 0) (table : RuleTable T A) (charge : ℕ)
    {taken used ask : ℕ} {full strict had has : Bool} {swept : Swept} {before after : Tally}
    {effort counted : Effort} {a u b c : SeatOf T} where
  -- A reservation evicted exactly for what it asks for, whatever came behind it.
  abbrev pub evicts_as_asked : full ≡ is_full table taken → is_strict table ≡ strict
      → ask ≡ asked strict (capacity_of table) charge full used
      → Enters table taken a u → view u ≡ entered full (view a)
      → Makes (address_of_ledger table USAGE) (added strict charge) 0 used u b
      → IsEvent table (enter_done (setup_of (plan_of table)) taken (view a)) a u
      → FindsBy table strict charge used u b → EvictsNothing (view u) (view b)
      → EvictsFor fits table had has ask swept b c
      → IsSweptFor had has (slots_of table) ask swept
      → Sweeps swept.turns swept.slots swept.charge (view b) (view c)
      → Tallied swept before after → Lost swept.lost swept.lost effort counted
      → IsBetweenCalls (view a).work
      → (clients_of table ≡ 1
      → taken + (view a).takings ≡ length (view a).made + occupied_by (view a).work)
      → (clients_of table ≡ 1 → used ≤ charged_to (view u).work + charge_made (view u))
      → (d : SeatOf T) → EvictsNothing (view c) (view d) → GoesOnBy table is_booking c d
      → EvictsAsAsked fits table charge had has before after effort counted a d
  evicts_as_asked is_found is_kind is_asked enters opens finds enters_by finds_by found evicts
      within sweeps tallied lost idle places charges d left behind =
      record {
        taken = taken;
        used = used;
        swept = swept;
        u = u;
        b = b;
        c = c;
        enters = enters;
        finds =
            subst (λ s. Makes (address_of_ledger table USAGE) (added s charge) 0 used u b)
            (sym is_kind) finds;
        enters_by = enters_by;
        finds_by = subst (λ s. FindsBy table s charge used u b) (sym is_kind) finds_by;
        evicts = subst (λ n. EvictsFor fits table had has n swept b c) here evicts;
        within = subst (λ n. IsSweptFor had has (slots_of table) n swept) here within;
        turns =
            left.turns ∙ (ap (λ (z : View T). z.turns) sweeps.same
            ∙ ap (λ n. n + swept.turns) (found.turns ∙ ap (λ (z : View T). z.turns) opens));
        takings =
            left.takings ∙ (ap (λ (z : View T). z.takings) sweeps.same
            ∙ ap (λ n. n + swept.slots) (found.takings ∙ ap (λ (z : View T). z.takings) opens));
        gone =
            takes_alike sweeps.taken
            (sym (found.gone ∙ ap (λ (z : View T). z.gone) opens)) left.gone;
        opened =
            left.opened ∙ (ap (λ (z : View T). z.open_places) sweeps.same
            ∙ (found.opened ∙ (ap (λ (z : View T). z.open_places) opens
            ∙ ap (λ f. (view a).open_places + when f 1) is_found)));
        tallied = tallied;
        lost = lost;
        behind = behind;
        taken_alone = λ one. let some = places one in let none = no_place in omega arith;
        used_alone = λ one. let some = charges one in let own = stands in omega arith;
      }
    where
      -- between two calls a client has no place and no freed slot,
      no_place : occupied_by (view a).work ≡ 0
      no_place = ap occupied_by idle

      -- and only its standalone entries stand for it
      stands : charged_to (view u).work + charge_made (view u)
          ≡ standing_of (view a).work + charge_made (view a)
      stands =
          let made = ap charge_made opens in
          let charged = ap (λ (z : View T). charged_to z.work) opens in
          let own = ap charged_to idle in
          omega arith

      here : ask ≡ asked (is_strict table) (capacity_of table) charge (is_full table taken) used
      here =
          is_asked
          ∙ (λ k. asked (sym is_kind k) (capacity_of table) charge (is_found k) used)
