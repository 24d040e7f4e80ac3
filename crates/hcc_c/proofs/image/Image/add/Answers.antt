use Rattle.std.proofs.Common.{rules, ◌≡◌, ℕ, List, [], ◌∷◌, ◌++◌, ◌∙◌, ap, map}
use Rattle.std.proofs.lemmas.List.{map-append}
use Rattle.hcc_cache.specs.declared.image.Saved.{Saved}
use Rattle.hcc_cache.specs.Images.{visible_of}
use Rattle.hcc_c.specs.Images.{entry_for}
use Rattle.hcc_c.proofs.image.Image.add.Goals as goal

-- What is added to the list is added to what it shows.
shown_more : (saved : List Saved) (it : Saved) (value : List ℕ) → it.value.items ≡ value
    → map visible_of (saved ++ it ∷ [])
    ≡ map visible_of saved ++ entry_for it.key value it.charge it.uses ∷ []
shown_more saved it value same =
    map-append visible_of saved (it ∷ [])
    ∙ ap (λ v. map visible_of saved ++ entry_for it.key v it.charge it.uses ∷ []) same

pub returns : goal.returns
returns c = record {
  memory = search rules;
  nothing = search rules;
  added = rw c.in-Ok-push.ensures.items (shown_more c.args.self.now.entries.items (record {
    key = c.args.key;
    value = c.in-Ok.value;
    charge = c.args.charge;
    uses = c.args.uses;
  }) c.args.value.now c.in-Ok.ensures.items);
}
