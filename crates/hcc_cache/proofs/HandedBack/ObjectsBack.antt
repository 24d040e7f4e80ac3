-- What is left of a cache of objects, of the clients that came back.
use Rattle.std.proofs.Common.{◌≡◌, ◌∙◌, ◌++◌, List, length, map, sym, ap, arith}
use Rattle.std.proofs.lemmas.List.{append-nil, length-map, nil_from_length}
use Rattle.hcc_rule.specs.declared.layout.TheConstants.{LENGTH}
use Rattle.hcc_cache.specs.declared.cache.Cache.{Cache}
use Rattle.hcc_cache.specs.declared.client.Client.{Client}
use Rattle.hcc_cache.specs.declared.closed.Closed.{Closed}
use Rattle.hcc_cache.specs.declared.gone.Objects.{Objects}
use Rattle.hcc_cache.specs.declared.object_cache.ObjectCache.{ObjectCache}
use Rattle.hcc_cache.specs.declared.object_cache.ObjectClient.{ObjectClient}
use Rattle.hcc_cache.specs.Closings.{AreBack, IsClosed}
use Rattle.hcc_cache.specs.Objects.{client_of, is_word}
use Rattle.hcc_cache.specs.ObjectsClosed.{AreAllBack}
use Rattle.hcc_cache.specs.ObjectsLeft.{AreWords}
use Rattle.hcc_cache.proofs.Basics.Lists.{at_map}

-- the clients of the cache of bytes below are back
pub back_below : (cache : ObjectCache) (clients : List ObjectClient) → AreAllBack cache clients
    → AreBack cache.cache (map client_of clients)
back_below cache clients back = record {
  enough = let all = back.all in let count = length-map clients client_of in omega arith;
  known = λ k client at.
      let there = at_map client_of clients k client at in
      rw (← there.2) (back.known k there.0 there.1).known;
  none = λ k client at.
      let there = at_map client_of clients k client at in
      rw (← there.2) (back.none k there.0 there.1);
}

-- each entry that is left there is of one word
pub words_left : (cache : Cache Objects) (clients : List (Client Objects)) (closed : Closed)
    → IsClosed is_word cache clients closed → AreWords closed.shards.items
words_left cache clients closed is s slot left there inside entry =
    let size = is.size s left there in
    let within = rw size at inside in
    let has = rw size at entry in
    let kept = (is.closes s left there).kept slot within has in
    let long : length kept.made.value ≡ 8 = kept.right.fitting.right in
    rw size (kept.says LENGTH (omega arith) ∙ long)

-- The clients that came back were all gathered.
pub gathered : (back : List (Client Objects)) (rest clients : List ObjectClient)
    → back ++ map client_of rest ≡ map client_of clients → length rest ≡ 0
    → back ≡ map client_of clients
gathered back rest clients same none =
    sym (append-nil back)
    ∙ ap (λ l. back ++ map client_of l) (sym (nil_from_length rest none)) ∙ same
