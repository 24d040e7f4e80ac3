use Rattle.std.proofs.Common.{◌≡◌, ◌∙◌, ◌+◌, ◌-◌, true, false, Some, None, length, sym, ap, subst, refl}
use Rattle.std.proofs.lemmas.Bool.{eq-eqb, ne_eqb}
use Rattle.std.proofs.lemmas.Option.{same_Some}
use Rattle.slab.specs.Slab.{Updates}
use Rattle.hcc_cache.specs.declared.holding.Alone.{Alone}
use Rattle.hcc_cache.specs.declared.object_cache.ObjectClient.{ObjectClient}
use Rattle.hcc_cache.specs.Alones.{LessAlone}
use Rattle.hcc_cache.proofs.Handles.OneMoreOnPinned.{stand_there}
use Rattle.hcc_cache.proofs.HandedBack.AloneAfterwards.{alone_changed}
use Rattle.hcc_cache.proofs.HandedBack.ListsKept.{keeps_list, moves_one}
use Rattle.hcc_cache.proofs.object_cache.ObjectCache.release_alone.Goals.{then-alone-eq1, else-alone-eq1}
use Rattle.hcc_cache.proofs.object_cache.ObjectCache.release_alone.Goals as goal

pub index-alone-requires : goal.index-alone-requires
index-alone-requires c =
    stand_there c.args.handle c.requires.known.known c.requires.held c.requires.kept

pub returns-clause-known : goal.returns-clause-known
returns-clause-known c =
    let cache = c.args.self.now in
    let old = c.args.client.now in
    let mid = c.if-alone-eq1.client in
    let client = c.release_standing.new.client in
    let new : ObjectClient = record { client = client; gone = mid.gone } in
    let gone = c.release_standing.result in
    let at = c.args.index in
    let a = c.index-alone.result.now in
    let knows = c.requires.known in
    let known = c.release_standing.ensures.known in
    let told = c.release_standing.ensures.alone in
    elim c.if-alone-eq1.branch [
      | then-alone-eq1 w ↦
          let left = subst (λ x. LessAlone at gone x client)
          (ap (λ (x : ObjectClient). x.client) w.client-is) told in
          let same : left.entry ≡ a = same_Some _ _ (sym left.there ∙ c.index-alone.ensures) in
          let one = ap (λ (x : Alone). x.references) same ∙ w.if-alone-eq1.true in
          let yes : gone ≡ true = left.last ∙ eq-eqb left.entry.references 1 one in
          let updates : Updates old.client.alone client.alone at None = rw yes at left.updates in
          moves_one cache old new knows known at left.entry left.there updates left.most
          (ap (λ (x : ObjectClient). x.gone.most) w.client-is ∙ w.add.ensures.most)
          (ap (λ (x : ObjectClient). x.gone.count) w.client-is ∙ w.add.ensures.count)
          (ap (λ (x : ObjectClient). length x.gone.places.items - x.gone.count + 1) w.client-is
          ∙ w.add.ensures.places)
      | else-alone-eq1 w ↦
          let left = subst (λ x. LessAlone at gone x client)
          (ap (λ (x : ObjectClient). x.client) w.client-is) told in
          let same : left.entry ≡ a = same_Some _ _ (sym left.there ∙ c.index-alone.ensures) in
          let more : left.entry.references ≡ 1 → ⊥ =
          λ one. w.if-alone-eq1.false (ap (λ (x : Alone). x.references) (sym same) ∙ one) in
          let no : gone ≡ false = left.last ∙ ne_eqb left.entry.references 1 more in
          let b : Alone = record left.entry { references = left.entry.references - 1 } in
          let updates : Updates old.client.alone client.alone at (Some b) =
          rw no at left.updates in
          keeps_list cache old new knows known
          (alone_changed old.client client left.most at left.entry b left.there refl updates)
          (ap (λ (x : ObjectClient). x.gone) w.client-is)
    ]
