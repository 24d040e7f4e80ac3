-- What every step on a ledger word, a displacement word or the hand shares.
use Rattle.std.proofs.Common.{◌≡◌, ℕ, ◌^◌, ◌<◌, inl, true, List, Some, Ok, slice_get, slice_index, refl, Option}
use Rattle.hcc_core.specs.declared.event.Event.{Event}
use Rattle.hcc_core.specs.declared.event.Reply.{Reply}
use Rattle.hcc_core.specs.declared.client.Client.{Client}
use Rattle.hcc_core.specs.World.{usage_of}
use Rattle.hcc_core.specs.Outcomes.{with_client}
use Rattle.hcc_core.specs.Steps.{outcome_of}
use Rattle.hcc_core.specs.Lawful.{Lawful}
use Rattle.hcc_core.proofs.Opening.{is_lawful}
use Rattle.hcc_rule.specs.declared.key.Key.{Key}
use Rattle.hcc_rule.specs.declared.rule.Plan.{Plan}
use Rattle.hcc_rule.specs.declared.view.View.{View}
use Rattle.hcc_rule.specs.Told.{Held}
use Rattle.hcc_rule.specs.Views.{is_seated}
use Rattle.hcc_rule.specs.Rule.{IsModest, Holds}
use Rattle.hcc_rule.proofs.Parts.ClientParts.{SameView, SameSlotWork}
use Rattle.hcc_rule.proofs.Ledgers.LedgerSteps.{Pays, goes_aside}
use Rattle.hcc_rule.proofs.Parts.SlotSteps.{Shard}
use Rattle.hcc_rule.proofs.Parts.Touches.{client_is}
use Rattle.hcc_rule.proofs.Basics.Bounds.{usage_small, charge_small}
use Rattle.hcc_rule.specs.Acts.{Goes, IsStepBy, did}
use Rattle.hcc_rule.specs.declared.view.Done.{Done}

-- a view of which these fields alone change
pub view_kept : {T : Type 0} (v : View T) (left : Client) (asked turns : ℕ) (seen tight : List ℕ)
    → SameView v (record v {
      work = left;
      open_places = asked;
      turns = turns;
      seen = seen;
      tight =
          tight;
    })
view_kept v left asked turns seen tight = record {
  tag = refl;
  client = refl;
  others = refl;
  records = refl;
  made = refl;
  takings = refl;
  gone = refl;
}

-- what is paid at a place is paid there by any name
pub pays_at : (size room a b x y h k : ℕ) (old new : Client) → a ≡ b
    → Pays size room b x y h k old new → Pays size room a x y h k old new
pays_at size room a b x y h k old new same pays = rw same pays

module _ {T : Type 0} (fits : T → Key → List ℕ → Type 0) (p : Plan T) where
  module _ (s : Shard fits p) (r : Holds fits p s) (id : ℕ) (v : View T)
      (at : slice_get s.views id ≡ Some v) (seated : is_seated v ≡ true) where
    -- what is in hand is modest
    pub modest_is : IsModest v.work
    modest_is = r.ledgers.modest v.client v.work (client_is fits p s r id v at seated)

  pub law_is : (s : Shard fits p) (r : Holds fits p s) → Lawful r.world
  law_is s r = is_lawful r.world r.lawful

  -- the usage is far below a word's end
  pub usage_low : (s : Shard fits p) (r : Holds fits p s) → usage_of r.world < 2 ^ 60
  usage_low s r =
      usage_small r.world (law_is s r)
      (charge_small fits p.tag p.geometry.room r.world.slots r.world.clients r.books s.views s.words
      r.stamps r.stored)
      (λ c client there. r.ledgers.modest c client there)

  -- A step that moves no hand and makes no turn.
  pub goes_by : (s : Shard fits p) (r : Holds fits p s) (id a y : ℕ) (me : Held T) (left : Client)
      (asked : ℕ) (seen tight : List ℕ) (event : Event) (reply : Reply)
      (then : ℕ → Held T → Option Done → Type 0)
      → slice_get s.views id ≡ Some me.0 → is_seated me.0 ≡ true → SameSlotWork me.0.work left
      → IsStepBy me.0.client event → IsModest left
      → outcome_of r.world event ≡ Ok (reply, with_client r.world me.0.client left)
      → Pays p.geometry.slots p.geometry.room a (slice_index s.words a) y r.world.hand r.world.hand
      me.0.work left
      → then (slice_index s.words a) (
        record me.0
            { work = left; open_places = asked; seen = seen; tight = tight },
        me.1,
      ) (Some (did event reply))
      → Goes fits p s r a y id me then
  goes_by s r id a y me left asked seen tight event reply then at seated work mine modest allowed
      pays told =
      goes_aside fits p s r id a y r.world.hand me
      (record me.0 { work = left; open_places = asked; seen = seen; tight = tight }) event reply
      then mine
      (record {
        at_view = at;
        seated = seated;
        same = view_kept me.0 left asked me.0.turns seen tight;
        written = refl;
        glimpse = refl;
        turning = inl (refl, refl);
        work = work;
        allowed = allowed;
        modest = modest;
        pays = pays;
      })
      told
