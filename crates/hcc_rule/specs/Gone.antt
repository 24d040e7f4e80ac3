-- Which entries a client took to free their slots.
use Rattle.std.specs.Prelude.{◌≡◌, ℕ, List, ◌++◌, length}
use Rattle.hcc_core.specs.Sums.{total}
use Rattle.hcc_rule.specs.declared.view.Gone.{Gone}
use Rattle.hcc_rule.specs.declared.view.View.{View}

-- The client took so many entries more, of these charges together, behind those that it took
-- before.
pub record Takes {T : Type 0} (slots charge : ℕ) (v w : View T) : Type 0 where
  pub these : List Gone
  pub gone : w.gone ≡ v.gone ++ these
  pub count : length these ≡ slots
  pub charges : total (λ (g : Gone). g.made.charge) these ≡ charge
