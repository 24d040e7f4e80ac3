-- Places for clients of a cache of objects, of which one is written after another.
use Rattle.std.proofs.Common.{◌≡◌, ℕ, suc, ◌<◌, Result, IsSomeAnd, ◌∙◌, List, ◌∷◌, Option, Some, None, drop, length, slice_index_or, sym, ap}
use Rattle.hcc_cache.specs.declared.object_cache.ObjectClient.{ObjectClient}
use Rattle.hcc_c.specs.declared.object_holders.ObjectClientPlace.{ObjectClientPlace}
use Rattle.hcc_c.specs.declared.object_session.ObjectSession.{ObjectSession}
use Rattle.hcc_c.specs.declared.refusal.Refusal.{Refusal}
use Rattle.hcc_c.specs.ObjectPools.{clients_in, held_in, judged_back, judged_each}
use Rattle.hcc_c.specs.Pools.{first_of}
use Rattle.hcc_c.proofs.Places.{rest_at}

-- what a place for a client holds
abbrev pub held : ObjectClientPlace → Option ObjectSession
held place = place.value

judged_on : (number : ℕ) (it : Option ObjectSession) (rest : List (Option ObjectSession))
    (answer : Result (Unit {0}) Refusal)
    → IsSomeAnd it (λ session. answer ≡ judged_back number session)
    → judged_each number (it ∷ rest) ≡ first_of answer (judged_each number rest)
judged_on number None rest answer told = absurd told
judged_on number (Some session) rest answer told =
    ap (λ a. first_of a (judged_each number rest)) (sym told)

-- those from an index on are judged by the first of them, and the rest
pub judged_next : (number : ℕ) (ps : List ObjectClientPlace) (k : ℕ) (d : ObjectClientPlace)
    (answer : Result (Unit {0}) Refusal) → k < length ps
    → IsSomeAnd (slice_index_or ps k d).value (λ session. answer ≡ judged_back number session)
    → judged_each number (drop k (held_in ps))
    ≡ first_of answer (judged_each number (drop (suc k) (held_in ps)))
judged_next number ps k d answer inside told =
    ap (judged_each number) (rest_at held ps k d inside)
    ∙ judged_on number (slice_index_or ps k d).value (drop (suc k) (held_in ps)) answer told

clients_on : (it : Option ObjectSession) (rest : List (Option ObjectSession))
    (client : ObjectClient) → IsSomeAnd it (λ session. client ≡ session.client)
    → clients_in (it ∷ rest) ≡ client ∷ clients_in rest
clients_on None rest client told = absurd told
clients_on (Some session) rest client told = ap (λ c. c ∷ clients_in rest) (sym told)

-- and so are their clients
pub clients_next : (ps : List ObjectClientPlace) (k : ℕ) (d : ObjectClientPlace)
    (client : ObjectClient) → k < length ps
    → IsSomeAnd (slice_index_or ps k d).value (λ session. client ≡ session.client)
    → clients_in (drop k (held_in ps)) ≡ client ∷ clients_in (drop (suc k) (held_in ps))
clients_next ps k d client inside told =
    ap clients_in (rest_at held ps k d inside)
    ∙ clients_on (slice_index_or ps k d).value (drop (suc k) (held_in ps)) client told
