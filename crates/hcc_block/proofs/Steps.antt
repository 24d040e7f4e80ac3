-- How many atomic steps a read makes.
use Rattle.std.proofs.Common.{◌≡◌, ℕ, ◌+◌, ◌*◌, ◌≤◌, List, Option, length, arith, subst}
use Rattle.std.specs.Prelude.{IfSome}
use Rattle.hcc_rule.specs.declared.key.Key.{Key}
use Rattle.hcc_rule.specs.Words.{words_for}
use Rattle.hcc_shard.specs.Inserted.{inserting}
use Rattle.hcc_cache.specs.declared.cache.Cache.{Cache}
use Rattle.hcc_cache.specs.declared.client.Client.{Client}
use Rattle.hcc_cache.specs.declared.handle.Handle.{Handle}
use Rattle.hcc_cache.specs.Calls.{Finds, TakesAtMost}
use Rattle.hcc_cache.specs.Clients.{Held, held_of}
use Rattle.hcc_block.specs.Reads.{hitting}

-- A hit makes no more steps than a look-up and an insertion that evicts nothing.
within_insertion : (slots room count evicting old new : ℕ) → 1 ≤ slots → count ≤ 8 * room
    → new ≤ old + (8 * slots + words_for count + 9)
    → new ≤ old + (7 * slots + (evicting + 5 + 8 * slots + room + 3))
within_insertion slots room count evicting old new some few takes =
    let words : words_for count ≤ room = omega arith in
    omega arith

-- A hit makes no more steps than a miss may.
pub hit_within : (slots room count old new : ℕ) → 1 ≤ slots → count ≤ 8 * room
    → new ≤ old + hitting slots count → new ≤ old + (7 * slots + inserting slots room)
hit_within slots room count old new some few takes =
    within_insertion slots room count _ old new some few takes

-- What a look-up found is read in the steps that its value takes.
pub copy_within : {T : Type 0} (cache : Cache T) (fits : T → Key → List ℕ → Type 0) (key : Key)
    (handle : Handle) (old found was : Client T) (count : ℕ)
    (finds : Finds cache fits key handle old found)
    → IfSome (held_of cache found handle) (λ held. count ≡ length held.insertion.value)
    → TakesAtMost (words_for count + 1) found was
    → TakesAtMost (words_for (length finds.found.entry.value) + 1) found was
copy_within cache fits key handle old found was count finds counted takes =
    let same : count ≡ length finds.found.entry.value =
    subst (λ (o : Option Held). IfSome o (λ held. count ≡ length held.insertion.value))
    finds.gains.stands counted in
    subst (λ n. TakesAtMost (words_for n + 1) found was) same takes
