use Rattle.std.proofs.Common.{◌≡◌, ◌<◌, List, [], ◌∷◌, Some, slice_get, vec_len, arith}
use Rattle.std.specs.Prelude.{remove}
use Rattle.std.proofs.lemmas.Option.{slice_get_read}
use Rattle.hcc_cache_tests.proofs.chains.two.Goals as goal

-- the first of a list from which the second was taken
first_left : {X : Type 0} (xs : List X) (x : X) → slice_get (remove xs 1) 0 ≡ Some x
    → slice_get xs 0 ≡ Some x
first_left [] x here = here
first_left (y ∷ ys) x here = here

pub returns-clause-first : goal.returns-clause-first
returns-clause-first g c =
    let rest = c.remove-second.new.self in
    let some : 0 < vec_len rest = omega arith in
    first_left c.args.clients.items c.remove-first.result
    (rw c.remove-second.ensures.items at (slice_get_read rest.items (vec_len rest) 0
    c.remove-first.result rest.ok.0 some c.remove-first.ensures.value))

pub returns-clause-second : goal.returns-clause-second
returns-clause-second g c =
    let all = c.args.clients in
    slice_get_read all.items (vec_len all) 1 c.remove-second.result all.ok.0 (omega arith)
    c.remove-second.ensures.value
