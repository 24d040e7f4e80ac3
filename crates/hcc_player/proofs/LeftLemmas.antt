-- A whole play: the entries that are left, and those that were taken, are as many as were placed.
use Rattle.std.proofs.Common.{◌≡◌, ℕ, suc, ◌+◌, ◌<◌, false, List, [], ◌∷◌, Option, Some}
use Rattle.std.proofs.Common.{None, length, length-set, map, refl, sym, ap, ◌∙◌}
use Rattle.std.proofs.Common.{arith}
use Rattle.std.specs.Prelude.{slice_get}
use Rattle.std.specs.List.{range_with_len}
use Rattle.std.specs.declared.alloc.Global.{Global}
use Rattle.std.proofs.lemmas.Option.{slice_get_within}
use Rattle.hcc_core.specs.Sums.{total}
use Rattle.hcc_rule.proofs.Basics.Lists.{there}
use Rattle.hcc_rule.proofs.LastSeat.ClosingSums.{total_both, total_range}
use Rattle.hcc_rule.specs.declared.key.Key.{Key}
use Rattle.hcc_rule.specs.declared.view.View.{View}
use Rattle.hcc_rule.specs.Closing.{over_entries, words_of}
use Rattle.hcc_shard.specs.declared.entries.ClosedShard.{ClosedShard}
use Rattle.hcc_shard.specs.Left.{slots_left}
use Rattle.hcc_cache.proofs.Beginnings.NewClientsDealt.{total_of_zeros}
use Rattle.hcc_cache.specs.declared.cache.Cache.{Cache}
use Rattle.hcc_cache.specs.declared.client.Client.{Client}
use Rattle.hcc_cache.specs.declared.closed.Closed.{Closed}
use Rattle.hcc_cache.specs.declared.config.Config.{Config}
use Rattle.hcc_cache.specs.declared.seeded.Seeded.{Seeded}
use Rattle.hcc_cache.specs.Clients.{view_at, view_by, view_in}
use Rattle.hcc_cache.specs.Closings.{AreBack, IsClosed}
use Rattle.hcc_cache.specs.Left.{given, over_shards}
use Rattle.hcc_cache.specs.Opened.{IsOpened}
use Rattle.hcc_cache.specs.Totals.{taken_at, taken_by}
use Rattle.hcc_player.specs.declared.run.answer.Answer.{Answer}
use Rattle.hcc_player.specs.declared.run.call.RunLine.{RunLine}
use Rattle.hcc_player.specs.declared.run.registers.Filled.{Filled}
use Rattle.hcc_player.specs.declared.run.registers.Registers.{Registers}
use Rattle.hcc_player.specs.Runs.{ClosesAfter, LetsGo, MakesAll, placed_by, placed_in, stood_by}
use Rattle.hcc_player.proofs.CountLemmas.{made_at, made_over, over_adds, range_same}
use Rattle.hcc_player.proofs.MadeLemmas.{MadeNone, adds, gives_none, made_in, none_same, none_then}

-- Sums over lists.

pub total_mapped : {A B : Type 0} (f : B → ℕ) (g : A → B) (xs : List A)
    → total f (map g xs) ≡ total (λ x. f (g x)) xs
total_mapped f g [] = refl
total_mapped f g (x ∷ xs) = ap (λ n. f (g x) + n) (total_mapped f g xs)

-- two lists whose members give the same, place by place
total_alike : {A : Type 0} (f : A → ℕ) (xs ys : List A) → length xs ≡ length ys
    → ((k : ℕ) (x y : A) → slice_get xs k ≡ Some x → slice_get ys k ≡ Some y → f x ≡ f y)
    → total f xs ≡ total f ys
total_alike f [] [] same h = refl
total_alike f [] (y ∷ ys) same h = absurd (omega arith)
total_alike f (x ∷ xs) [] same h = absurd (omega arith)
total_alike f (x ∷ xs) (y ∷ ys) same h =
    let first = h 0 x y refl refl in
    let rest = total_alike f xs ys (omega arith) (λ k a b at on. h (suc k) a b at on) in
    omega arith

module _ {T : Type 0} (fits : T → Key → List ℕ → Type 0) (cache : Cache T) where
  -- as many clients and registers as before
  pub makes_length : (lines : List RunLine) (told : List Answer) (old new : List (Client T))
      (was now : List Registers) → MakesAll fits cache lines told old new was now
      → (length new ≡ length old) × (length now ≡ length was)
  makes_length [] [] old new was now makes = (ap length makes.0, ap length makes.1)
  makes_length [] (a ∷ told) old new was now makes = absurd makes
  makes_length (l ∷ lines) [] old new was now makes = absurd makes
  makes_length (l ∷ lines) (a ∷ told) old new was now makes =
      let one = makes.2 in
      let rest = makes_length lines told makes.0 new makes.1 now makes.3 in (
        rest.0 ∙ ap length one.clients_are ∙ length-set old l.client one.after,
        rest.1 ∙ ap length one.registers_are ∙ length-set was l.client one.holds,
      )

  -- the lines add what was placed
  pub makes_adds : (lines : List RunLine) (told : List Answer) (old new : List (Client T))
      (was now : List Registers) → MakesAll fits cache lines told old new was now
      → made_over (length cache.shards.items) new
      ≡ made_over (length cache.shards.items) old + placed_in lines told
  makes_adds [] [] old new was now makes =
      let same = ap (made_over (length cache.shards.items)) makes.0 in omega arith
  makes_adds [] (a ∷ told) old new was now makes = absurd makes
  makes_adds (l ∷ lines) [] old new was now makes = absurd makes
  makes_adds (l ∷ lines) (a ∷ told) old new was now makes =
      let one = makes.2 in
      let rest = makes_adds lines told makes.0 new makes.1 now makes.3 in
      let here = ap (made_over (length cache.shards.items)) one.clients_are in
      let more = over_adds cache l.client old one.before one.after (stood_by l.call a)
      (placed_by l.call a) one.client_was
      (adds fits cache l.call a one.before one.after _ _ one.did) in
      omega arith

  -- what is released was made before
  pub goes_none : (held : List Filled) (old new : Client T) → LetsGo fits cache held old new
      → MadeNone 0 old new
  goes_none [] old new goes = none_same old new goes
  goes_none (f ∷ fs) old new goes =
      let gives = goes.2 in
      none_then old goes.0 new
      (gives_none cache gives.handle false goes.1 old goes.0 gives.releases)
      (goes_none fs goes.0 new goes.3)

  -- so all clients have made what they had made
  ends_same : (clients : List (Client T)) (registers : List Registers) (closed : Closed)
      (ends : ClosesAfter fits cache clients registers closed)
      → length registers ≡ length clients
      → made_over (length cache.shards.items) ends.left
      ≡ made_over (length cache.shards.items) clients
  ends_same clients registers closed ends alike =
      range_same (λ s. made_at s ends.left) (λ s. made_at s clients) 0 (length cache.shards.items)
      (λ s low high. total_alike (λ (c : Client T). length (made_in s c)) ends.left clients
      ends.count
      (λ k last client at on.
      let within = slice_get_within clients k client on in
      let held = there registers k (omega arith) in
      let goes = ends.each k client last held.0 on held.1 at in
      let none = goes_none held.0.filled.items client last goes in
      ap length (none.same s)))

module _ {T : Type 0} (config : Config) (tag : T) (cache : Cache T) (clients : List (Client T))
    (opened : IsOpened config tag cache clients) where
  -- a new client made nothing
  pub new_made : (s k : ℕ) (client : Client T) → s < length cache.shards.items
      → slice_get clients k ≡ Some client → length (made_in s client) ≡ 0
  new_made s k client within at =
      let dealt = opened.dealt.each k client at in
      let count = dealt.count in
      let shard = there cache.shards.items s within in
      let seat = there client.seats.items s (omega arith) in
      let new = dealt.seats s shard.0 seat.0 shard.1 seat.1 in
      ap (λ o. length (view_by o).made) seat.1
      ∙ ap (λ (v : View (Seeded T)). length v.made) new.fresh

  pub opened_none : made_over (length cache.shards.items) clients ≡ 0
  opened_none =
      range_same (λ s. made_at s clients) (λ s. 0) 0 (length cache.shards.items)
      (λ s low high. total_of_zeros (λ (c : Client T). length (made_in s c)) clients
      (λ k client at. new_made s k client (omega arith) at))
      ∙ total_of_zeros (λ s. 0) (range_with_len 0 (length cache.shards.items)) (λ k x at. refl)

module _ {T : Type 0} where
  -- what clients took at a shard
  abbrev took_at : ℕ → List (Client T) → ℕ
  took_at s clients = total (λ (c : Client T). (view_at s c).takings) clients

  -- over all shards that is what they took
  taken_over : (count : ℕ) (clients : List (Client T))
      → ((k : ℕ) (client : Client T) → slice_get clients k ≡ Some client
      → length client.seats.items ≡ count)
      → total taken_by clients ≡ total (λ s. took_at s clients) (range_with_len 0 count)
  taken_over count [] seated =
      sym (total_of_zeros (λ s. 0) (range_with_len 0 count) (λ k x at. refl))
  taken_over count (c ∷ cs) seated =
      let seats = seated 0 c refl in
      let mine : taken_by c
      ≡ total (λ s. (view_in c.seats.items s).takings) (range_with_len 0 count) =
      total_range taken_at (λ s. (view_in c.seats.items s).takings) c.seats.items
      (λ s seat at. ap (λ o. (view_by o).takings) (sym at))
      ∙ ap (λ n. total (λ s. (view_in c.seats.items s).takings) (range_with_len 0 n)) seats in
      let rest = taken_over count cs (λ k x at. seated (suc k) x at) in
      let both = total_both (λ s. (view_at s c).takings) (λ s. took_at s cs)
      (range_with_len 0 count) in
      omega arith

module _ {T : Type 0} (fits : T → Key → List ℕ → Type 0) (cache : Cache T)
    (clients : List (Client T)) (closed : Closed) (back : AreBack cache clients)
    (closes : IsClosed fits cache clients closed) where
  -- what a shard has left, and what was taken of it
  shard_left : (s : ℕ) (left : ClosedShard Global)
      → slice_get closed.shards.items s ≡ Some (Some left)
      → slots_left left.table + took_at s clients ≡ made_at s clients
  shard_left s left at =
      let size = closes.size s left at in
      let counted = closes.counted s left at in
      let slots : slots_left left.table
      ≡ over_entries cache.geometry.room (words_of left.table) cache.geometry.slots (λ k. 1) =
      ap (λ g. over_entries g.room (words_of left.table) g.slots (λ k. 1)) size in
      let taken = total_mapped (λ (v : View (Seeded T)). v.takings) (view_at s) clients in
      let made = total_mapped (λ (v : View (Seeded T)). length v.made) (view_at s) clients in
      omega arith

  -- all that clients made is left, or was taken
  pub closed_left : over_shards closed.shards.items (λ left. slots_left left.table)
      + total taken_by clients ≡ made_over (length cache.shards.items) clients
  closed_left =
      let count = length cache.shards.items in
      let slots_at : ℕ → ℕ = λ s. slots_of (slice_get closed.shards.items s) in
      let left : over_shards closed.shards.items (λ left. slots_left left.table)
      ≡ total slots_at (range_with_len 0 count) =
      total_range (given (λ left. slots_left left.table)) slots_at closed.shards.items
      (λ s one at. ap slots_of (sym at))
      ∙ ap (λ n. total slots_at (range_with_len 0 n)) closes.count in
      let taken = taken_over count clients
      (λ k client at. (back.known k client at).seated.count) in
      let both = total_both slots_at (λ s. took_at s clients) (range_with_len 0 count) in
      let all = range_same (λ s. slots_at s + took_at s clients) (λ s. made_at s clients) 0 count
      (λ s low high.
      let full = closes.full s (omega arith) in
      ap (λ o. slots_of o + took_at s clients) full.1 ∙ shard_left s full.0 full.1) in
      omega arith
    where
      slots_of : Option (Option (ClosedShard Global)) → ℕ
      slots_of None = 0
      slots_of (Some one) = given (λ left. slots_left left.table) one

-- The entries that a play left, and those that its clients took, are as many as its lines placed.
pub all_counted : {T : Type 0} (fits : T → Key → List ℕ → Type 0) (config : Config) (tag : T)
    (cache : Cache T) (lines : List RunLine) (told : List Answer) (first last : List (Client T))
    (empty kept : List Registers) (closed : Closed) → IsOpened config tag cache first
    → length empty ≡ length first → MakesAll fits cache lines told first last empty kept
    → (ends : ClosesAfter fits cache last kept closed)
    → over_shards closed.shards.items (λ left. slots_left left.table) + total taken_by ends.left
    ≡ placed_in lines told
all_counted fits config tag cache lines told first last empty kept closed opened alike makes ends =
    let lengths = makes_length fits cache lines told first last empty kept makes in
    let begun = opened_none config tag cache first opened in
    let added = makes_adds fits cache lines told first last empty kept makes in
    let same = ends_same fits cache last kept closed ends
    (lengths.1 ∙ alike ∙ sym lengths.0) in
    let left = closed_left fits cache ends.left closed ends.back ends.closes in
    omega arith
