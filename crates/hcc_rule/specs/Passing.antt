-- The views of seats that are split and joined.
use Rattle.std.specs.Prelude.{◌≡◌, ◌+◌, true, Option, None, List, [], ◌∷◌, ◌++◌}
use Rattle.hcc_core.specs.declared.client.Client.{Client}
use Rattle.hcc_core.specs.Opening.{new_client}
use Rattle.hcc_rule.specs.declared.view.Other.{Other}
use Rattle.hcc_rule.specs.declared.view.View.{View}
use Rattle.hcc_rule.specs.Opening.{unstarted, fresh_view}

-- A seat is split: the new one stands for the first of the other clients.
abbrev pub rest_of : List Other → List Other
rest_of [] = []
rest_of (o ∷ os) = os

abbrev pub left_view : {T : Type 0} → View T → View T
left_view v = record v { others = rest_of v.others }

-- the view of a seat that stands for none
abbrev pub spent_view : {T : Type 0} → View T
spent_view = fresh_view None (unstarted 0) []

abbrev pub first_view : {T : Type 0} → Option T → List Other → View T
first_view tag [] = spent_view
first_view tag (o ∷ os) = fresh_view tag o []

abbrev pub right_view : {T : Type 0} → View T → View T
right_view v = first_view v.tag v.others

-- a client with nothing in hand: it may have looked, and it may have stamps and a dead list
abbrev pub IsIdle : Client → Type 0
IsIdle work = work ≡ record new_client {
  live = true;
  looked = work.looked;
  stamps = work.stamps;
  dead = work.dead;
}

-- Two seats are joined: the client of the second, with nothing in hand, and those that it named
-- are the first's to start, and what the second did counts as the first's.
abbrev pub as_other : {T : Type 0} → View T → Other
as_other v = record { client = v.client; made = v.made; dead = v.work.dead }

abbrev pub joined_view : {T : Type 0} → View T → View T → View T
joined_view v w = record v {
  others = v.others ++ as_other w ∷ w.others;
  hidden = v.hidden ++ w.hidden;
  takings = v.takings + w.takings;
  warm = v.warm + w.warm;
  gone = v.gone ++ w.gone;
  open_places = v.open_places + w.open_places;
  saw = v.saw + w.saw;
  turns = v.turns + w.turns;
  met = v.met ++ w.met;
  seen = v.seen ++ w.seen;
  tight = v.tight ++ w.tight;
}
