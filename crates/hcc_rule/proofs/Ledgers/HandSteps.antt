-- A turn of the hand.
use Rattle.std.proofs.Common.{◌≡◌, ℕ, ◌+◌, ◌%◌, ◌^◌, inr, true, List, Some, slice_get, slice_index, refl, ap, ◌∙◌, sym}
use mathlib.Core.Option.{none}
use Rattle.atomic_table.specs.Table.{step}
use Rattle.hcc_core.specs.declared.limits.TheConstants.{SLOTS_PER_TURN}
use Rattle.hcc_core.specs.declared.event.Event.TheVariants as events
use Rattle.hcc_core.specs.declared.event.Reply.TheVariants as replies
use Rattle.hcc_rule.specs.declared.key.Key.{Key}
use Rattle.hcc_rule.specs.declared.layout.TheConstants.{HAND}
use Rattle.hcc_rule.specs.declared.rule.Plan.{Plan}
use Rattle.hcc_rule.specs.declared.view.View.{View}
use Rattle.hcc_rule.specs.Told.{Held}
use Rattle.hcc_rule.specs.ToldLedgers.{turns}
use Rattle.hcc_rule.specs.Views.{is_seated}
use Rattle.hcc_rule.specs.Words.{ledger_at}
use Rattle.hcc_rule.proofs.Basics.Lists.{read_at}
use Rattle.hcc_rule.proofs.Ledgers.LedgerSteps.{on_hand, goes_aside}
use Rattle.hcc_rule.proofs.Ledgers.LedgerGives.{turn_gives}
use Rattle.hcc_rule.proofs.Parts.Asides.{view_kept, pays_at, modest_is, law_is}
use Rattle.hcc_rule.proofs.Parts.Touches.{client_is, live_is}
use Rattle.hcc_rule.specs.Acts.{Acts}
use Rattle.hcc_rule.specs.Events.{turn_done}

module _ {T : Type 0} (fits : T → Key → List ℕ → Type 0) (p : Plan T) where
  -- The hand moves on by the slots of a turn.
  pub turn_step : (count id a : ℕ) (me : Held T) → is_seated me.0 ≡ true
      → a ≡ ledger_at p.geometry.slots p.geometry.room HAND
      → Acts fits p count id me a (λ n. (n + SLOTS_PER_TURN) % 2 ^ 64)
      (turns (step count a SLOTS_PER_TURN 0 none) me)
  turn_step count id a me seated address s r homes there low =
      goes_aside fits p s r id a next next me (record v { turns = v.turns + 1 })
      (events.Turn v.client) (replies.Count r.world.hand)
      (turns (step count a SLOTS_PER_TURN 0 none) me) (refl, refl)
      (record {
        at_view = at;
        seated = seated;
        same = view_kept v v.work v.open_places (v.turns + 1) v.seen v.tight;
        written = refl;
        glimpse = refl;
        turning = inr (refl, ap (λ n. (n + SLOTS_PER_TURN) % 2 ^ 64) found);
        work = refl;
        allowed = turn_gives r.world v.client v.work (law_is fits p s r) client live word found;
        modest = modest_is fits p s r id v at seated;
        pays =
            pays_at p.geometry.slots p.geometry.room a _ word next r.world.hand next v.work v.work
            address
            (on_hand p.geometry.slots p.geometry.room word next r.world.hand v.work v.work refl refl
            refl refl);
      })
      (refl, refl, ap (λ n. Some (turn_done n v)) (sym found))
    where
      v : View T
      v = me.0

      word : ℕ
      word = slice_index s.words a

      at : slice_get s.views id ≡ Some v
      at = read_at s.views id v there

      client : slice_get r.world.clients v.client ≡ Some v.work
      client = client_is fits p s r id v at seated

      live : v.work.live ≡ true
      live = live_is fits p s r id v at seated

      found : slice_index s.words a ≡ r.world.hand
      found = ap (slice_index s.words) address ∙ r.turned

      next : ℕ
      next = (word + SLOTS_PER_TURN) % 2 ^ 64
