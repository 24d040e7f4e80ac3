use Rattle.std.proofs.Common.{◌∙◌, [], ◌∷◌, ◌++◌, inl, inr, map, slice_get, sym, ap}
use Rattle.std.proofs.lemmas.List.{append_assoc, map-append}
use Rattle.hcc_cache.specs.declared.object_cache.ObjectClient.{ObjectClient}
use Rattle.hcc_cache.specs.Objects.{client_of}
use Rattle.hcc_cache.proofs.Basics.Lists.{get_push}
use Rattle.hcc_cache.proofs.object_opening.listed.Goals as goal

pub loop-client-preserved : goal.loop-client-preserved
loop-client-preserved c =
    let old = c.loop-client.listed.items in
    let rest = c.next.new.self.rest.items in
    let items = c.in_ok-push.ensures.items in
    let made : ObjectClient = record { client = c.in-Some.client; gone = c.in_ok-gone.gone } in
    let kept = c.loop-client.invariant in
    record {
      same =
          ap (λ l. map client_of l ++ rest) items
          ∙ ap (λ l. l ++ rest) (map-append client_of old (made ∷ []))
          ∙ append_assoc (map client_of old) (made.client ∷ []) rest
          ∙ ap (λ l. map client_of old ++ l) (sym c.in-Some.ensures.steps.0)
          ∙ kept.same;
      blank = λ k client at.
          elim (get_push old made client k (ap (λ l. slice_get l k) {x = old ++ made ∷ []}
          (sym items) ∙ at)) [
            | inl there ↦ kept.blank k client there
            | inr last ↦ rw (← last.1) (record {
              most = c.in_ok-gone.ensures.most;
              count = c.in_ok-gone.ensures.empty;
              places = c.in_ok-gone.ensures.places;
            })
          ];
    }
