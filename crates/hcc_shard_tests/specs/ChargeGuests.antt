-- What clients have between calls of `hcc_charge`.
use Rattle.std.specs.Prelude.{◌≡◌, ℕ, ◌^◌, ◌<◌, ◌≤◌, true, IfSome, length}
use Rattle.hcc_core.specs.declared.client.Place.{Place}
use Rattle.hcc_rule.specs.declared.steps.shows.Draft.{Draft}
use Rattle.hcc_rule.specs.declared.view.Record.{Record}
use Rattle.hcc_rule.specs.declared.view.View.{View}
use Rattle.hcc_rule.specs.Rule.{IsAbove}
use Rattle.hcc_rule.specs.Views.{Each, load_of}
use Rattle.hcc_table.specs.Erased.{IsAtRest}
use Rattle.hcc_charge.specs.Settled.{HasFreedNothing}

module _ {T : Type 0} where
  -- A client that has this place and this much granted, and nothing else in hand but standalone
  -- entries and references. It made at most so many entries, and the serial of each and the name of
  -- each reference is how many it made before.
  pub record IsGuest (place : Place) (granted client shown : ℕ) (v : View T) : Type 0 where
    pub live : v.work.live ≡ true
    pub rest : IsAtRest v
    pub placed : v.work.place ≡ place
    pub paid : v.work.granted ≡ granted
    pub settled : HasFreedNothing v
    pub own : v.client ≡ client
    pub made : length v.made ≤ shown
    pub above : IsAbove shown v.made
    pub names : Each (λ (r : Record). r.name < shown) v.records
    pub load : load_of v.records ≤ shown

-- an entry that a guest may insert
pub record IsDrafted (shown : ℕ) (draft : Draft) : Type 0 where
  pub serial : draft.serial ≡ shown
  pub charge : 0 < draft.charge
  pub small : draft.charge < 2 ^ 32
  pub some : 1 ≤ draft.countdown
  pub few : draft.countdown ≤ 3
  pub name : IfSome draft.name (λ x. x ≡ shown)
