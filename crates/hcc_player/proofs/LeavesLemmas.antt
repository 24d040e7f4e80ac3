-- A whole play: what is left are entries that lines placed, of no line twice.
use Rattle.std.proofs.Common.{◌≡◌, ℕ, ◌<◌, List, [], ◌∷◌, ◌++◌, Some, length, refl, sym, ap}
use Rattle.std.proofs.Common.{◌∙◌, arith}
use Rattle.std.specs.Prelude.{slice_get}
use Rattle.std.proofs.lemmas.Option.{slice_get_within}
use Rattle.hcc_rule.proofs.Basics.Lists.{there}
use Rattle.hcc_rule.specs.declared.key.Key.{Key}
use Rattle.hcc_rule.specs.declared.view.Made.{Made}
use Rattle.hcc_shard.specs.Left.{charges_left, slots_left}
use Rattle.hcc_cache.specs.declared.cache.Cache.{Cache}
use Rattle.hcc_cache.specs.declared.client.Client.{Client}
use Rattle.hcc_cache.specs.declared.closed.Closed.{Closed}
use Rattle.hcc_cache.specs.declared.config.Config.{Config}
use Rattle.hcc_cache.specs.Left.{over_shards}
use Rattle.hcc_cache.specs.Opened.{IsOpened}
use Rattle.hcc_player.specs.declared.run.answer.Answer.{Answer}
use Rattle.hcc_player.specs.declared.run.call.RunLine.{RunLine}
use Rattle.hcc_player.specs.declared.run.registers.Registers.{Registers}
use Rattle.hcc_player.specs.declared.sums.Sums.{Sums}
use Rattle.hcc_player.specs.Runs.{ClosesAfter, LeavesPlaced, MakesAll}
use Rattle.hcc_player.proofs.LeftLemmas.{goes_none, makes_length, new_made}
use Rattle.hcc_player.proofs.MadeLemmas.{made_in}
use Rattle.hcc_player.proofs.PlacedLeft.{FromLines, left_placed}
use Rattle.hcc_player.proofs.PlacedLemmas.{lines_add}

pub no_more : (xs : List Made) → length xs ≡ 0 → xs ≡ []
no_more [] e = refl
no_more (x ∷ xs) e = absurd (omega arith)

module _ {T : Type 0} (fits : T → Key → List ℕ → Type 0) (config : Config) (tag : T)
    (cache : Cache T) (lines : List RunLine) (told : List Answer) (first last : List (Client T))
    (empty kept : List Registers) (closed : Closed) (opened : IsOpened config tag cache first)
    (alike : length empty ≡ length first)
    (makes : MakesAll fits cache lines told first last empty kept)
    (ends : ClosesAfter fits cache last kept closed) where
  -- what a client made at a shard that is back
  from_lines : (k s : ℕ) (client : Client T) → s < length cache.shards.items
      → slice_get ends.left k ≡ Some client → FromLines cache lines told k s client
  from_lines k s client within at =
      let lengths = makes_length fits cache lines told first last empty kept makes in
      let count = ends.count in
      let many : length kept ≡ length last = lengths.1 ∙ alike ∙ sym lengths.0 in
      let same = lengths.0 in
      let low = slice_get_within ends.left k client at in
      let before = there last k (omega arith) in
      let new = there first k (omega arith) in
      let held = there kept k (omega arith) in
      let goes = ends.each k before.0 client held.0 before.1 held.1 at in
      let none = goes_none fits cache held.0.filled.items before.0 client goes in
      let added = lines_add cache k s fits 0 lines told first last empty kept new.0 before.0 makes
      new.1 before.1 in
      let nothing = no_more (made_in s new.0)
      (new_made config tag cache first opened s k new.0 within new.1) in
      let all : made_in s client ≡ added.more =
      none.same s ∙ added.made ∙ ap (λ l. l ++ added.more) nothing in
      record {
        charges = rw all added.charges;
        number = none.number ∙ added.number ∙ (opened.dealt.each k new.0 new.1).unused.number_is;
      }

  -- What is left are entries that lines placed.
  pub leaves_placed : (sums : Sums)
      → sums.slots ≡ over_shards closed.shards.items (λ left. slots_left left.table)
      → sums.charges ≡ over_shards closed.shards.items (λ left. charges_left left.table)
      → LeavesPlaced lines told sums
  leaves_placed sums slots_are charges_are =
      left_placed fits cache lines told ends.left closed from_lines ends.closes sums slots_are
      charges_are
