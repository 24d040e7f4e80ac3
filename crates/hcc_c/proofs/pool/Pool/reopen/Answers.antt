use Rattle.std.proofs.Common.{rules, ◌∙◌, length, sym, ap}
use Rattle.std.proofs.lemmas.List.{length-map}
use Rattle.hcc_cache.specs.Images.{visible_of}
use Rattle.hcc_c.proofs.Backs.{all_back}
use Rattle.hcc_c.proofs.pool.Pool.reopen.Goals as goal

pub of-requires-clause-back : goal.of-requires-clause-back
of-requires-clause-back c =
    let reopened = c.in-Ok.ensures.made in
    all_back c.in-Ok.made.0 c.in-Ok.made.1.items reopened.known
    (λ k client at. (reopened.started k client at).held)

pub returns-in-Ok-of : goal.returns-in-Ok-of
returns-in-Ok-of c =
    let image = c.into_inner-entries.ensures in
    let left = c.in-Ok.made.2 in
    record {
      refused = search rules;
      memory = search rules;
      nothing = tt;
      reopened = record {
        tag = _;
        cache = c.in-Ok.made.0;
        clients = c.in-Ok.made.1.items;
        reopened = rw image at c.in-Ok.ensures.made;
        begins = c.in-Ok-of.ensures.begins;
      };
      left_out = c.len-left_out.ensures ∙ left.ok.0 ∙ sym (length-map left.items visible_of)
          ∙ ap length (rw image at c.in-Ok.ensures.left);
      whole = c.in-Ok-of.ensures.whole;
    }
