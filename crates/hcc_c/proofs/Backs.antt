-- The clients that a cache has back.
use Rattle.std.proofs.Common.{◌≡◌, ℕ, zero, suc, ◌+◌, ◌≤◌, ◌++◌, List, [], ◌∷◌, Bool, true, false, Option, Some, None, Result, Ok, Err, IfOk, IfErr, OnOk, IsSomeAnd, ◌∙◌, length, slice_get, vec_capacity, if◌then◌else◌, refl, sym, ap, arith}
use Rattle.std.proofs.lemmas.Bool.{eq-eqb, eqb-true}
use Rattle.std.specs.Arc.{arc_value}
use Rattle.std.specs.Global.{Global, Vec}
use Rattle.std_alloc.specs.declared.arc.Arc.{Arc}
use Rattle.hcc_rule.specs.Views.{Each}
use Rattle.hcc_cache.specs.declared.cache.Cache.{Cache}
use Rattle.hcc_cache.specs.declared.client.Client.{Client}
use Rattle.hcc_cache.specs.declared.closed.Closed.{Closed}
use Rattle.hcc_cache.specs.declared.config.Config.{Config}
use Rattle.hcc_cache.specs.declared.tags.AnyBytes.{AnyBytes}
use Rattle.hcc_cache.specs.Clients.{held_by}
use Rattle.hcc_cache.specs.Closings.{AreBack}
use Rattle.hcc_cache.specs.Images.{AreRight, Visible}
use Rattle.hcc_cache.specs.Known.{Knows}
use Rattle.hcc_cache.specs.Opened.{IsCacheOf}
use Rattle.hcc_c.specs.declared.pool.Pool.{Pool}
use Rattle.hcc_c.specs.declared.refusal.Refusal.{Refusal}
use Rattle.hcc_c.specs.declared.refusal.Refusal.TheVariants.{Shared}
use Rattle.hcc_c.specs.declared.session.Session.{Session}
use Rattle.hcc_c.specs.Pools.{AreFit, Closes, Ends, EndsWith, Has, IsBack, IsEmpty, IsSized, IsWholePool, clients_in, first_of, judged_all, judged_back, judged_each}
use Rattle.hcc_c.specs.Sessions.{IsWhole, any}

-- what holds of each member holds of that at an index, and back
pub each_at : {A : Type 0} (P : A → Type 0) (xs : List A) → Each P xs
    → (k : ℕ) (x : A) → slice_get xs k ≡ Some x → P x
each_at P [] each k x at = cc
each_at P (y ∷ ys) each zero x at = let same : y ≡ x = cc in rw (sym same) each.0
each_at P (y ∷ ys) each (suc k) x at = each_at P ys each.1 k x at

pub each_of : {A : Type 0} (P : A → Type 0) (xs : List A)
    → ((k : ℕ) (x : A) → slice_get xs k ≡ Some x → P x) → Each P xs
each_of P [] each = tt
each_of P (x ∷ xs) each = (each 0 x refl, each_of P xs (λ k y at. each (suc k) y at))

pub each_both : {A : Type 0} (P : A → Type 0) (xs ys : List A) → Each P xs → Each P ys
    → Each P (xs ++ ys)
each_both P [] ys front back = back
each_both P (x ∷ xs) ys front back = (front.0, each_both P xs ys front.1 back)

-- the clients of a new cache are back
pub all_back : (cache : Cache AnyBytes) (clients : List (Client AnyBytes))
    → ((k : ℕ) (client : Client AnyBytes) → slice_get clients k ≡ Some client → Knows cache client)
    → ((k : ℕ) (client : Client AnyBytes) → slice_get clients k ≡ Some client
    → held_by client ≡ 0) → Each (IsBack cache) clients
all_back cache clients known none = each_of (IsBack cache) clients
    (λ k client at. record { known = known k client at; none = none k client at })

pub is_sized : (config : Config) (tag : AnyBytes) (cache : Cache AnyBytes)
    → IsCacheOf config tag cache → IsSized cache config
is_sized config tag cache is = record { geometry = is.geometry; shards = is.count }

-- every value fits every key
pub all_right : (tag : AnyBytes) (es : List Visible) → AreRight any tag es
all_right tag [] = tt
all_right tag (e ∷ es) = (tt, all_right tag es)

-- A cache whose clients are all back may be closed.
pub are_back : (cache : Cache AnyBytes) (config : Config) (clients : List (Client AnyBytes))
    → Has config clients cache → config.clients ≤ length clients → AreBack cache clients
are_back cache config clients has enough =
    let each = each_at (IsBack cache) clients has.1 in
    let size = ap (λ g. g.clients) has.0.geometry in
    record {
      enough = omega arith;
      known = λ k client at. (each k client at).known;
      none = λ k client at. (each k client at).none;
    }

-- What passes two judgements passes each.
pub first_ok : (a b : Result (Unit {0}) Refusal) → first_of a b ≡ Ok tt → (a ≡ Ok tt) × (b ≡ Ok tt)
first_ok (Ok fit) b ok = (refl, ok)
first_ok (Err why) b ok = cc

two_tests : (a b : Bool) (x y : Refusal)
    → ◌≡◌ {A = Result (Unit {0}) Refusal} (if a then (if b then Ok tt else Err x) else Err y)
    (Ok tt)
    → (a ≡ true) × (b ≡ true)
two_tests true true x y ok = (refl, refl)
two_tests true false x y ok = cc
two_tests false b x y ok = cc

-- a session that is there, and on this cache if it has this number
abbrev Fits : Cache AnyBytes → ℕ → Option Session → Type 0
Fits cache number held = IsSomeAnd held (λ session. IsWhole session
    × (session.cache_number ≡ number → arc_value session.cache ≡ cache))

-- The clients that are taken back are the cache's, and hold no handle.
fit_back : (cache : Cache AnyBytes) (number : ℕ) (held : List (Option Session))
    → Each (Fits cache number) held → judged_each number held ≡ Ok tt
    → Each (IsBack cache) (clients_in held)
fit_back cache number [] fit ok = tt
fit_back cache number (None ∷ rest) fit ok = absurd fit.0
fit_back cache number (Some session ∷ rest) fit ok =
    let both = first_ok (judged_back number session) (judged_each number rest) ok in
    let tests = two_tests _ _ _ _ both.0 in
    let mine = eqb-true session.cache_number number tests.0 in (
      record {
        known = rw (fit.0.1 mine) at fit.0.0.knows;
        none = eqb-true (held_by session.client) 0 tests.1;
      },
      fit_back cache number rest fit.1 both.1,
    )

-- They are as many as the sessions,
pub count_in : (pool : Pool) (held : List (Option Session)) → AreFit pool held
    → length (clients_in held) ≡ length held
count_in pool [] fit = refl
count_in pool (None ∷ rest) fit = absurd fit.0
count_in pool (Some session ∷ rest) fit = ap suc (count_in pool rest fit.1)

with_held : (cache : Option (Arc (Cache AnyBytes) Global)) (number : ℕ) (config : Config)
    (clients : List (Client AnyBytes)) (held : List (Option Session))
    → IsSomeAnd cache (λ it. Has config clients (arc_value it))
    → Each (λ held. IsSomeAnd held (λ session. IsWhole session × (session.cache_number ≡ number
    → IsSomeAnd cache (λ it. arc_value session.cache ≡ arc_value it)))) held
    → judged_each number held ≡ Ok tt
    → IsSomeAnd cache (λ it. Has config (clients ++ clients_in held) (arc_value it))
with_held None number config clients held has fit ok = has
with_held (Some it) number config clients held has fit ok = (
  has.0,
  each_both (IsBack (arc_value it)) clients (clients_in held) has.1
      (fit_back (arc_value it) number held fit ok),
)

-- and the cache that has them back is whole.
pub whole_with : (pool : Pool) (held : List (Option Session)) (back : Vec (Client AnyBytes))
    → IsWholePool pool → AreFit pool held → judged_each pool.number held ≡ Ok tt
    → back.items ≡ pool.back.items ++ clients_in held
    → vec_capacity back ≡ vec_capacity pool.back → IsWholePool (record pool { back = back })
whole_with pool held back whole fit ok items capacity = record {
  there = rw items (with_held pool.cache pool.number pool.config pool.back.items held
      whole.there fit ok);
  room = rw capacity whole.room;
}

-- Clients of which each is taken back, and that are as many as are out, end the cache.
pub passes : (pool : Pool) (held : List (Option Session)) → judged_each pool.number held ≡ Ok tt
    → length pool.back.items + length held ≡ pool.config.clients → judged_all pool held ≡ Ok tt
passes pool held fine count =
    let test = eq-eqb (length pool.back.items + length held) pool.config.clients count in
    rw (fine, test) refl

-- What a cache answers that has its clients back, where nothing was refused before.
pub ended : (answer : Result Closed Refusal) (old new : Pool) (were are : List (Option Session))
    (back : Vec (Client AnyBytes)) → judged_all old were ≡ Ok tt → Each IsEmpty are
    → back.items ≡ old.back.items ++ clients_in were → IsWholePool (record old { back = back })
    → IfErr answer (λ e. (e ≡ Shared) × (new ≡ record old { back = back }))
    → IfOk answer (λ closed. Closes closed (record old { back = back }) back.items)
    → EndsWith answer old new were are
ended (Ok closed) old new were are back ok none items whole shared closes = record {
  refused = rw ok tt;
  taken = rw ok none;
  shared = rw ok tt;
  closed = (closed, rw items at closes, refl);
  whole = tt;
}
ended (Err why) old new were are back ok none items whole shared closes = record {
  refused = rw ok tt;
  taken = rw ok none;
  shared = rw ok (
    shared.0,
    (
      ap (λ p. p.back.items) shared.1 ∙ items,
      shared.1 ∙ ap (λ b. record old { back = b }) (sym (ap (λ p. p.back) shared.1)),
    ),
  );
  closed = tt;
  whole = rw shared.1 whole;
}

-- What is told of a cache that ended.
pub ends_told : {A C : Type 0} (closed : C) (given : A) (J : Result (Unit {0}) Refusal)
    (X Y : Type 0)
    → IfErr J (λ why. (◌≡◌ {A = Result C Refusal} (Ok closed) (Err why)) × X × Y)
    → IfErr J (λ why. (◌≡◌ {A = Result A Refusal} (Ok given) (Err why)) × X × Y)
ends_told closed given (Ok fit) X Y refused = tt
ends_told {C = C} closed given (Err why) X Y refused =
    let bad : ◌≡◌ {A = Result C Refusal} (Ok closed) (Err why) = refused.0 in cc

pub on_ok : {X : Type 0} (J : Result (Unit {0}) Refusal) → X → OnOk J X
on_ok (Ok fit) x = x
on_ok (Err why) x = tt

pub told : {A : Type 0} (IsOf : A → Closed → Type 0) (closed : Closed) (given : A) (old new : Pool)
    (were are : List (Option Session)) → EndsWith (Ok closed) old new were are → IsOf given closed
    → Ends IsOf (Ok given) old new were are
told IsOf closed given old new were are ends is = record {
  refused = ends_told closed given (judged_all old were) (new ≡ old) (are ≡ were)
      ends.refused;
  taken = ends.taken;
  shared = on_ok (judged_all old were) tt;
  closed = (ends.closed.0, ends.closed.1, rw (sym ends.closed.2) is);
  whole = tt;
}
