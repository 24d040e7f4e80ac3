use Rattle.std.proofs.Common.{◌+◌, [], ◌∷◌, ◌++◌, inl, inr, sym, refl, ap, ◌∙◌, length, slice_get}
use Rattle.std.proofs.lemmas.List.{length_push}
use Rattle.hcc_cache.specs.declared.client.Client.{Client}
use Rattle.hcc_cache.proofs.Beginnings.NewClientsDealt.{get_push}
use Rattle.hcc_cache.proofs.opening.unseated.Goals as goal

pub loop-number-preserved : goal.loop-number-preserved
loop-number-preserved g c =
    let old = c.loop-number.clients.items in
    let items = c.in_ok-push.ensures.items in
    let made : Client g.row.T.Denot = record {
      number = c.loop-number.number;
      seed = c.args.config.seed;
      held = 0;
      most = c.args.config.handles;
      used = 0;
      left = c.args.config.serials;
      seats = c.in_ok-with_capacity.field-0;
      handles = c.in_ok-with_capacity-2.field-0;
      alone = c.in_ok-with_capacity-3.field-0;
    } in
    let kept = c.loop-number.invariant in
    let longer = ap length {y = old ++ made ∷ []} items ∙ length_push old made in
    record {
      count = longer ∙ ap (λ n. n + 1) kept.count;
      each = λ k client h. elim (get_push old made client k (ap (λ xs. slice_get xs k)
          {x = old ++ made ∷ []} (sym items) ∙ h)) [
            | inl there ↦ kept.each k client there
            | inr last ↦ rw (← last.1) (
              record {
                number_is = sym (last.0 ∙ kept.count);
                seed = refl;
                most = refl;
                held = refl;
                used = refl;
                left = refl;
                handles = c.in_ok-with_capacity-2.ensures.empty;
                alone = c.in_ok-with_capacity-3.ensures.empty;
                room = (
                  c.in_ok-with_capacity-2.ensures.capacity,
                  c.in_ok-with_capacity-3.ensures.capacity,
                );
              },
              c.in_ok-with_capacity.ensures.items,
            )
          ];
    }
