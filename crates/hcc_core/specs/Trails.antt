-- The steps on trails and the hand.
use Rattle.std.specs.Prelude.{ℕ, ◌+◌, ◌%◌, ◌^◌, Bool, ◌==◌, nat_lt, [], ◌∷◌, ◌++◌, Ok, length}
use Rattle.std.specs.List.{list_any}
use Rattle.hcc_core.specs.declared.limits.TheConstants.{SLOTS_PER_TURN}
use Rattle.hcc_core.specs.declared.event.Reply.TheVariants as replies
use Rattle.hcc_core.specs.World.{State, passed_at}
use Rattle.hcc_core.specs.Outcomes.{◌>>=◌, Outcome, allow, slot_at, live_at, dropped, with_client}

-- Trails: count, pass and unpass.

unfoldable pub count_of : State → ℕ → ℕ → Outcome
count_of world client slot = do
  seen ← slot_at world slot
  found ← live_at world client
  Ok (replies.Count (passed_at world slot), world)

unfoldable pub pass_of : State → ℕ → ℕ → Outcome
pass_of world client slot = do
  seen ← slot_at world slot
  found ← live_at world client
  room ← allow (nat_lt (length found.trail) world.setup.slots)
  Ok (replies.Ok, with_client world client (record found { trail = found.trail ++ slot ∷ [] }))

abbrev pub is_slot : ℕ → ℕ → Bool
is_slot slot passed = passed == slot

unfoldable pub unpass_of : State → ℕ → ℕ → Outcome
unpass_of world client slot = do
  seen ← slot_at world slot
  found ← live_at world client
  passed ← allow (list_any (is_slot slot) found.trail)
  let trail = dropped (is_slot slot) found.trail
  Ok (replies.Ok, with_client world client (record found { trail = trail }))

-- The hand.

unfoldable pub turn_of : State → ℕ → Outcome
turn_of world client = do
  found ← live_at world client
  Ok (replies.Count world.hand, record world { hand = (world.hand + SLOTS_PER_TURN) % 2 ^ 64 })
