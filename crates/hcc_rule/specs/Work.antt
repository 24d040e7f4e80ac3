-- What a client has in hand, beside its last look, its stamps and its dead list.
use Rattle.std.specs.Prelude.{◌≡◌, true, List}
use Rattle.hcc_core.specs.declared.client.Client.{Client}
use Rattle.hcc_rule.specs.declared.view.Record.{Record}
use Rattle.hcc_rule.specs.declared.view.View.{View}

-- a live client with this in hand, that looked, showed and saw the same
abbrev pub carrying : (what now : Client) → Client
carrying what now =
    record what { live = true; looked = now.looked; stamps = now.stamps; dead = now.dead }

module _ {T : Type 0} where
  -- the client of this view has this in hand, and these records
  pub record Carries (what : Client) (records : List Record) (v : View T) : Type 0 where
    pub in_hand : v.work ≡ carrying what v.work
    pub records_are : v.records ≡ records
