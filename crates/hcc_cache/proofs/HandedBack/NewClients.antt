-- What a new cache of objects knows of its clients.
use Rattle.std.proofs.Common.{◌≡◌, ◌∙◌, List, None, Some, get_or, option_map, slice_get, sym, ap, subst, arith}
use Rattle.std.proofs.lemmas.Option.{slice_get-map}
use Rattle.slab.specs.Slab.{slab_len}
use Rattle.hcc_core.specs.Sums.{total}
use Rattle.hcc_rule.specs.declared.geometry.Geometry.{Geometry}
use Rattle.hcc_cache.specs.declared.client.Client.{Client}
use Rattle.hcc_cache.specs.declared.gone.Objects.{Objects}
use Rattle.hcc_cache.specs.declared.object_cache.ObjectCache.{ObjectCache}
use Rattle.hcc_cache.specs.declared.object_cache.ObjectClient.{ObjectClient}
use Rattle.hcc_cache.specs.declared.object_opening.ObjectConfig.{ObjectConfig}
use Rattle.hcc_cache.specs.ObjectConfigs.{plain}
use Rattle.hcc_cache.specs.Objects.{client_of}
use Rattle.hcc_cache.specs.ObjectsOpened.{AreListed, IsOpenedFor}
use Rattle.hcc_cache.specs.Opened.{IsOpened}
use Rattle.hcc_cache.proofs.Basics.SlabSums.{len_total, one_of}

pub opened_for : (config : ObjectConfig) (cache : ObjectCache) (below : List (Client Objects))
    (clients : List ObjectClient) → IsOpened (plain config) (record {}) cache.cache below
    → AreListed config below clients → IsOpenedFor config cache clients
opened_for config cache below clients opened listed = record {
  opened = subst (IsOpened (plain config) (record {}) cache.cache) (sym listed.same) opened;
  blank = listed.blank;
  known = λ k client there.
      let at : slice_get below k ≡ Some client.client =
      ap (λ l. slice_get l k) (sym listed.same) ∙ slice_get-map client_of clients k
      ∙ ap (option_map client_of) there in
      let unused = (opened.dealt.each k client.client at).unused in
      let blank = listed.blank k client there in
      let most = unused.most in
      let handles = blank.most in
      let count = blank.count in
      let places = blank.places in
      let none : slab_len client.client.alone ≡ 0 =
      len_total client.client.alone ∙ ap (total one_of) unused.alone in
      record {
        known = opened.known k client.client at;
        sized = ap (λ (g : Geometry). g.room) opened.cache_is.geometry;
        places = omega arith;
        room = omega arith;
        objects = λ index a stands.
            let gone : Some a ≡ None =
            sym stands ∙ ap (λ l. get_or l index None) unused.alone in
            cc;
      };
}
