-- The clients that a cache of objects has back.
use Rattle.std.proofs.Common.{◌≡◌, ℕ, ◌==◌, suc, ◌+◌, ◌++◌, List, [], ◌∷◌, Bool, true, false, Option, Some, None, Result, Ok, Err, IfOk, IfErr, IsSomeAnd, ◌∙◌, length, option_map, vec_capacity, if◌then◌else◌, refl, sym, ap}
use Rattle.std.proofs.lemmas.Bool.{eq-eqb, eqb-true}
use Rattle.std.proofs.lemmas.List.{length-map}
use Rattle.std.proofs.lemmas.Option.{slice_get-map}
use Rattle.std.specs.Arc.{arc_value}
use Rattle.std.specs.Global.{Global, Vec}
use Rattle.std_alloc.specs.declared.arc.Arc.{Arc}
use Rattle.hcc_rule.specs.Views.{Each}
use Rattle.hcc_cache.specs.declared.object_cache.ObjectCache.{ObjectCache}
use Rattle.hcc_cache.specs.declared.object_cache.ObjectClient.{ObjectClient}
use Rattle.hcc_cache.specs.declared.object_opening.ObjectConfig.{ObjectConfig}
use Rattle.hcc_cache.specs.declared.objects_left.ObjectsLeft.{ObjectsLeft}
use Rattle.hcc_cache.specs.Objects.{client_of}
use Rattle.hcc_cache.specs.ObjectsClosed.{AreAllBack, handles_of, untaken_of}
use Rattle.hcc_cache.specs.ObjectsOpened.{IsOpenedFor}
use Rattle.hcc_c.specs.declared.object_pool.ObjectPool.{ObjectPool}
use Rattle.hcc_c.specs.declared.object_session.ObjectSession.{ObjectSession}
use Rattle.hcc_c.specs.declared.refusal.Refusal.{Refusal}
use Rattle.hcc_c.specs.declared.refusal.Refusal.TheVariants.{HandlesOut, OtherCache, Shared, Untaken}
use Rattle.hcc_c.specs.ObjectPools.{AreFit, Closes, Ends, EndsWith, Has, IsBack, IsEmpty, IsSized, IsWholePool, clients_in, judged_all, judged_back, judged_each}
use Rattle.hcc_c.specs.ObjectSessions.{IsWhole}
use Rattle.hcc_c.proofs.Backs.{each_at, each_both, each_of, ends_told, first_ok, on_ok}

-- the clients of a new cache are back
pub new_back : (config : ObjectConfig) (cache : ObjectCache) (clients : List ObjectClient)
    → IsOpenedFor config cache clients → Each (IsBack cache) clients
new_back config cache clients opened = each_of (IsBack cache) clients (λ k client at.
    let its = slice_get-map client_of clients k ∙ ap (option_map client_of) at in
    record {
      known = opened.known k client at;
      none = (opened.opened.dealt.each k client.client its).unused.held;
      taken = (opened.blank k client at).count;
    })

pub new_count : (config : ObjectConfig) (cache : ObjectCache) (clients : List ObjectClient)
    → IsOpenedFor config cache clients → length clients ≡ config.clients
new_count config cache clients opened =
    sym (length-map clients client_of) ∙ opened.opened.dealt.count

pub new_sized : (config : ObjectConfig) (cache : ObjectCache) (clients : List ObjectClient)
    → IsOpenedFor config cache clients → IsSized cache config
new_sized config cache clients opened = opened.opened.cache_is.geometry

-- A cache whose clients are all back may be closed.
pub all_back : (cache : ObjectCache) (config : ObjectConfig) (clients : List ObjectClient)
    → Has config clients cache → length clients ≡ config.clients → AreAllBack cache clients
all_back cache config clients has count =
    let each = each_at (IsBack cache) clients has.1 in
    record {
      all = count ∙ sym (ap (λ g. g.clients) has.0);
      known = λ k client at. (each k client at).known;
      none = λ k client at. (each k client at).none;
      taken = λ k client at. (each k client at).taken;
    }

-- What passes three tests passes each.
three_tests : (a b c : Bool) (x y z : Refusal)
    → ◌≡◌ {A = Result (Unit {0}) Refusal}
    (if a then (if b then (if c then Ok tt else Err x) else Err y) else Err z) (Ok tt)
    → (a ≡ true) × (b ≡ true) × (c ≡ true)
three_tests true true true x y z ok = (refl, refl, refl)
three_tests true true false x y z ok = cc
three_tests true false c x y z ok = cc
three_tests false b c x y z ok = cc

-- a session that is there, and on this cache if it has this number
abbrev Fits : ObjectCache → ℕ → Option ObjectSession → Type 0
Fits cache number held = IsSomeAnd held (λ session. IsWhole session
    × (session.cache_number ≡ number → arc_value session.cache ≡ cache))

-- The clients that are taken back are the cache's, hold no handle, and have nothing on their lists.
fit_back : (cache : ObjectCache) (number : ℕ) (held : List (Option ObjectSession))
    → Each (Fits cache number) held → judged_each number held ≡ Ok tt
    → Each (IsBack cache) (clients_in held)
fit_back cache number [] fit ok = tt
fit_back cache number (None ∷ rest) fit ok = absurd fit.0
fit_back cache number (Some session ∷ rest) fit ok =
    let both = first_ok (judged_back number session) (judged_each number rest) ok in
    let tests = three_tests (session.cache_number == number) (handles_of session.client == 0)
    (untaken_of session.client == 0) Untaken HandlesOut OtherCache both.0 in
    let mine = eqb-true session.cache_number number tests.0 in (
      record {
        known = rw (fit.0.1 mine) at fit.0.0.knows;
        none = eqb-true (handles_of session.client) 0 tests.1;
        taken = eqb-true (untaken_of session.client) 0 tests.2;
      },
      fit_back cache number rest fit.1 both.1,
    )

-- They are as many as the sessions,
pub count_in : (pool : ObjectPool) (held : List (Option ObjectSession)) → AreFit pool held
    → length (clients_in held) ≡ length held
count_in pool [] fit = refl
count_in pool (None ∷ rest) fit = absurd fit.0
count_in pool (Some session ∷ rest) fit = ap suc (count_in pool rest fit.1)

with_held : (cache : Option (Arc ObjectCache Global)) (number : ℕ) (config : ObjectConfig)
    (clients : List ObjectClient) (held : List (Option ObjectSession))
    → IsSomeAnd cache (λ it. Has config clients (arc_value it))
    → Each (λ held. IsSomeAnd held (λ session. IsWhole session × (session.cache_number ≡ number
    → IsSomeAnd cache (λ it. arc_value session.cache ≡ arc_value it)))) held
    → judged_each number held ≡ Ok tt
    → IsSomeAnd cache (λ it. Has config (clients ++ clients_in held) (arc_value it))
with_held None number config clients held has fit ok = has
with_held (Some it) number config clients held has fit ok = (
  has.0,
  each_both (IsBack (arc_value it)) clients (clients_in held) has.1
      (fit_back (arc_value it) number held fit ok),
)

-- and the cache that has them back is whole.
pub whole_with : (pool : ObjectPool) (held : List (Option ObjectSession))
    (back : Vec ObjectClient) → IsWholePool pool → AreFit pool held
    → judged_each pool.number held ≡ Ok tt → back.items ≡ pool.back.items ++ clients_in held
    → vec_capacity back ≡ vec_capacity pool.back → IsWholePool (record pool { back = back })
whole_with pool held back whole fit ok items capacity = record {
  there = rw items (with_held pool.cache pool.number pool.config pool.back.items held
      whole.there fit ok);
  room = rw capacity whole.room;
  closing = whole.closing;
}

-- Clients of which each is taken back, and that are as many as are out, end the cache.
pub passes : (pool : ObjectPool) (held : List (Option ObjectSession))
    → judged_each pool.number held ≡ Ok tt
    → length pool.back.items + length held ≡ pool.config.clients → judged_all pool held ≡ Ok tt
passes pool held fine count =
    let test = eq-eqb (length pool.back.items + length held) pool.config.clients count in
    rw (fine, test) refl

-- What a cache answers that has its clients back, where nothing was refused before.
pub ended : (answer : Result ObjectsLeft Refusal) (old new : ObjectPool)
    (were are : List (Option ObjectSession)) (back : Vec ObjectClient)
    → judged_all old were ≡ Ok tt → Each IsEmpty are
    → back.items ≡ old.back.items ++ clients_in were → IsWholePool (record old { back = back })
    → IfErr answer (λ e. (e ≡ Shared) × (new ≡ record old { back = back }))
    → IfOk answer (λ left. Closes left (record old { back = back }) back.items)
    → EndsWith answer old new were are
ended (Ok left) old new were are back ok none items whole shared closes = record {
  refused = rw ok tt;
  taken = rw ok none;
  shared = rw ok tt;
  closed = (left, rw items at closes, refl);
  whole = tt;
}
ended (Err why) old new were are back ok none items whole shared closes = record {
  refused = rw ok tt;
  taken = rw ok none;
  shared = rw ok (
    shared.0,
    (
      ap (λ p. p.back.items) shared.1 ∙ items,
      shared.1 ∙ ap (λ b. record old { back = b }) (sym (ap (λ p. p.back) shared.1)),
    ),
  );
  closed = tt;
  whole = rw shared.1 whole;
}

-- What is told of a cache that ended.
pub told : {A : Type 0} (IsOf : A → ObjectsLeft → Type 0) (left : ObjectsLeft) (given : A)
    (old new : ObjectPool) (were are : List (Option ObjectSession))
    → EndsWith (Ok left) old new were are → IsOf given left → Ends IsOf (Ok given) old new were are
told IsOf left given old new were are ends is = record {
  refused = ends_told left given (judged_all old were) (new ≡ old) (are ≡ were) ends.refused;
  taken = ends.taken;
  shared = on_ok (judged_all old were) tt;
  closed = (ends.closed.0, ends.closed.1, rw (sym ends.closed.2) is);
  whole = tt;
}
