-- Which key each register holds, as lines and answers tell it.
use Rattle.std.proofs.Common.{◌≡◌, ℕ, ◌==◌, Bool, true, false, List, Option, Some, None, refl, sym, ap, ◌∙◌}
use Rattle.std.proofs.Common.{option_map}
use Rattle.std.specs.Prelude.{if◌then◌else◌}
use Rattle.std.proofs.lemmas.Option.{same_Some}
use Rattle.hcc_rule.specs.declared.key.Key.{Key}
use Rattle.hcc_cache.specs.declared.cache.Cache.{Cache}
use Rattle.hcc_cache.specs.declared.client.Client.{Client}
use Rattle.hcc_cache.specs.declared.config.Config.{Config}
use Rattle.hcc_cache.specs.declared.errors.InsertError.{InsertError}
use Rattle.hcc_cache.specs.declared.errors.InsertError.TheVariants as errors
use Rattle.hcc_cache.specs.declared.handle.Handle.{Handle}
use Rattle.hcc_cache.specs.Clients.{Held, Insertion, held_of}
use Rattle.hcc_player.specs.declared.run.answer.Answer.{Answer}
use Rattle.hcc_player.specs.declared.run.answer.Answer.TheVariants as answers
use Rattle.hcc_player.specs.declared.run.call.Call.{Call}
use Rattle.hcc_player.specs.declared.run.call.Call.TheVariants as calls
use Rattle.hcc_player.specs.declared.run.registers.Filled.{Filled}
use Rattle.hcc_player.specs.Registers.{AreFilled, at}
use Rattle.hcc_player.specs.RunAnswers.{IsRight}
use Rattle.hcc_player.specs.RunStates.{RefusesInsert, RefusesPin, State, with_emptied, with_filled}
use Rattle.hcc_player.specs.RunStates.{with_register}
use Rattle.hcc_player.specs.RunTold.{Holding, held_after}
use Rattle.hcc_player.proofs.RegisterLemmas.{on_register}
use Rattle.hcc_player.proofs.ToldWorlds.{key_by}

-- the key of an insertion, unless its entry stands alone
abbrev key_if : (alone : Bool) → Option Insertion → Option Key
key_if alone told = if alone then None else option_map (λ (i : Insertion). i.key) told

-- what is told of registers agrees with the insertions whose entries they hold
abbrev pub HoldsAs : Holding → State → Type 0
HoldsAs held s = (r : ℕ) → held r ≡ key_if (s.alone r) (s.registers r)

-- a register was filled
filled_as : (held : Holding) (s : State) (register : ℕ) (made : Insertion) (alone : Bool)
    (key : Option Key) → HoldsAs held s → key ≡ key_if alone (Some made)
    → HoldsAs (with_register held register key) (with_filled s register made alone)
filled_as held s register made alone key agrees is r = by (r == register)
  where
    by : (b : Bool) → (if b then key else held r)
        ≡ key_if (if b then alone else s.alone r) (if b then Some made else s.registers r)
    by true = is
    by false = agrees r

-- one was emptied
emptied_as : (held : Holding) (s : State) (register : ℕ) → HoldsAs held s
    → HoldsAs (with_register held register None) (with_emptied s register)
emptied_as held s register agrees r = by (r == register) (s.alone r) refl
  where
    by : (b alone : Bool) → s.alone r ≡ alone → (if b then None else held r)
        ≡ key_if (s.alone r) (if b then None else s.registers r)
    by true true is = rw is refl
    by true false is = rw is refl
    by false alone is = agrees r

same_as : (held : Holding) (s next : State) → next ≡ s → HoldsAs held s → HoldsAs held next
same_as held s next same agrees = rw same agrees

module _ (Puts : Key → List ℕ → Type 0) (config : Config) where
  -- an insertion that was refused
  refused_as : (held : Holding) (charge : ℕ) (error : InsertError) (s next : State)
      → RefusesInsert config charge error s next → HoldsAs held s → HoldsAs held next
  refused_as held charge errors.HandlesFull s next h agrees = absurd h
  refused_as held charge errors.Spent s next h agrees = same_as held s next h.1 agrees
  refused_as held charge errors.TooLarge s next h agrees = same_as held s next h.3 agrees
  refused_as held charge errors.CapacityFull s next h agrees = rw h.2 agrees
  refused_as held charge errors.OccupancyFull s next h agrees = rw h.2 agrees

  unpinned_as : (held : Holding) (charge : ℕ) (error : InsertError) (s next : State)
      → RefusesPin config charge error s next → HoldsAs held s → HoldsAs held next
  unpinned_as held charge errors.HandlesFull s next h agrees = same_as held s next h.1 agrees
  unpinned_as held charge errors.Spent s next h agrees =
      refused_as held charge errors.Spent s next h.1 agrees
  unpinned_as held charge errors.TooLarge s next h agrees =
      refused_as held charge errors.TooLarge s next h.1 agrees
  unpinned_as held charge errors.CapacityFull s next h agrees =
      refused_as held charge errors.CapacityFull s next h.1 agrees
  unpinned_as held charge errors.OccupancyFull s next h agrees =
      refused_as held charge errors.OccupancyFull s next h.1 agrees

  -- What is told of registers agrees with a right answer.
  pub held_right : (call : Call) (answer : Answer) (held : Holding) (s next : State)
      → IsRight Puts config s call answer next → HoldsAs held s
      → HoldsAs (held_after call answer held) next
  unfolding IsRight
  held_right (calls.Insert k x p v) answers.Placed held s next h agrees = rw h.1 agrees
  held_right (calls.Insert k x p v) answers.Dropped held s next h agrees = rw h.1 agrees
  held_right (calls.Insert k x p v) (answers.Refused e) held s next h agrees =
      refused_as held x e s next h agrees
  held_right (calls.Pin r k x p v) answers.Busy held s next h agrees =
      same_as held s next h.1 agrees
  held_right (calls.Pin r k x p v) answers.Placed held s next h agrees =
      rw h.1.2 (filled_as held s r (record { key = k; value = v; charge = x }) false (Some k) agrees
      refl)
  held_right (calls.Pin r k x p v) answers.Standalone held s next h agrees =
      rw h.1.2 (filled_as held s r (record { key = k; value = v; charge = x }) true None agrees
      refl)
  held_right (calls.Pin r k x p v) (answers.Refused e) held s next h agrees =
      unpinned_as held x e s next h.1 agrees
  held_right (calls.Lookup r k) answers.Busy held s next h agrees = same_as held s next h.1 agrees
  held_right (calls.Lookup r k) answers.Hit held s next h agrees =
      rw h.2.3 (filled_as held s r h.2.0 false (Some k) agrees (ap Some (sym h.2.1)))
  held_right (calls.Lookup r k) answers.Miss held s next h agrees = same_as held s next h.2 agrees
  held_right (calls.Lookup r k) (answers.Refused e) held s next h agrees =
      same_as held s next h.2 agrees
  held_right (calls.Reref r f) answers.Busy held s next h agrees = same_as held s next h.1 agrees
  held_right (calls.Reref r f) answers.Nothing held s next h agrees =
      same_as held s next h.2 agrees
  held_right (calls.Reref r f) answers.Held held s next h agrees =
      rw h.2.2 (filled_as held s r h.2.0 (s.alone f) (held f) agrees
      (agrees f ∙ ap (key_if (s.alone f)) h.2.1))
  held_right (calls.Reref r f) (answers.Refused e) held s next h agrees =
      same_as held s next h.3 agrees
  held_right (calls.Release r y z) answers.Freed held s next h agrees =
      rw h.1 (emptied_as held s r agrees)
  held_right (calls.Release r y z) answers.Kept held s next h agrees =
      rw h.1 (emptied_as held s r agrees)
  held_right (calls.Release r y z) answers.Nothing held s next h agrees =
      same_as held s next h.1 agrees
  held_right (calls.Value r) (answers.Value v) held s next h agrees =
      same_as held s next h.1 agrees
  held_right (calls.Value r) answers.Nothing held s next h agrees = same_as held s next h.1 agrees
  held_right (calls.Erase k) (answers.Erased n) held s next h agrees = same_as held s next h agrees
  held_right calls.Totals (answers.Totals a b c) held s next h agrees =
      same_as held s next h.3 agrees
  held_right (calls.Word i j) (answers.Word a b) held s next h agrees =
      same_as held s next h agrees
  held_right calls.Stats (answers.Stats t) held s next h agrees = same_as held s next h agrees
  held_right call answer held s next h agrees = absurd h

-- so it agrees with what the handles stand for
pub held_stands : {T : Type 0} (fits : T → Key → List ℕ → Type 0) (cache : Cache T)
    (config : Config) (held : Holding) (s : State) (client : Client T) (handles : List Filled)
    → AreFilled fits cache config s client handles → HoldsAs held s → (r : ℕ) (handle : Handle)
    → at handles r ≡ Some handle → (stands : Held) → held_of cache client handle ≡ Some stands
    → held r ≡ key_by stands
held_stands fits cache config held s client handles filled agrees r handle full stands here =
    let on = on_register fits cache config s client handles r handle full filled in
    let same : on.held ≡ stands = same_Some _ _ (sym on.here ∙ here) in
    let told : s.registers r ≡ Some stands.insertion =
    on.inserted ∙ ap (λ (x : Held). Some x.insertion) same in
    let kind = filled.kinds r handle stands full here in
    agrees r ∙ ap (key_if (s.alone r)) told
    ∙ ap (λ (b : Bool). key_if b (Some stands.insertion)) kind
