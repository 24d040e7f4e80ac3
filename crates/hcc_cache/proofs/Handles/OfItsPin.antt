-- What is kept of a handle is one thing: a pin, or the index of a standalone entry.
use Rattle.std.proofs.Common.{◌≡◌, ◌∙◌, ℕ, Bool, Some, sym, ap, subst}
use Rattle.std.proofs.lemmas.Option.{same_Some}
use Rattle.hcc_table.specs.declared.pins.Pin.{Pin}
use Rattle.hcc_cache.specs.declared.client.Client.{Client}
use Rattle.hcc_cache.specs.declared.handle.Handle.{Handle}
use Rattle.hcc_cache.specs.declared.holding.Hold.{Hold}
use Rattle.hcc_cache.specs.declared.holding.Kept.TheVariants.{Pinned, Standing}
use Rattle.hcc_cache.specs.Clients.{IsPinOf, hold_of}

module _ {T : Type 0} (client : Client T) (handle : Handle) (hold : Hold)
    (held : hold_of client handle ≡ Some hold) (P : Hold → ℕ → Bool → Type 0) where
  -- what holds of its pin holds of each pin that is kept of it
  pub of_pin : (pin : Pin) → IsPinOf hold pin → P hold pin.slot pin.counting
      → (h : Hold) (slot : ℕ) (counting : Bool) → hold_of client handle ≡ Some h
      → h.kept ≡ Pinned slot counting → P h slot counting
  of_pin pin its told h slot counting at kept =
      let same : h ≡ hold = same_Some _ _ (sym at ∙ held) in
      let is : Pinned pin.slot pin.counting ≡ Pinned slot counting =
      sym its.kept ∙ sym (ap (λ (it : Hold). it.kept) same) ∙ kept in
      let there : pin.slot ≡ slot = cc in
      let counts : pin.counting ≡ counting = cc in
      subst (λ (it : Hold). P it slot counting) (sym same)
      (subst (λ n. P hold n counting) there (subst (λ b. P hold pin.slot b) counts told))

  -- one that stands alone has no pin
  pub of_no_pin : (index : ℕ) → hold.kept ≡ Standing index
      → (h : Hold) (slot : ℕ) (counting : Bool) → hold_of client handle ≡ Some h
      → h.kept ≡ Pinned slot counting → P h slot counting
  of_no_pin index stands h slot counting at kept =
      let same : h ≡ hold = same_Some _ _ (sym at ∙ held) in
      let is : Standing index ≡ Pinned slot counting =
      sym stands ∙ sym (ap (λ (it : Hold). it.kept) same) ∙ kept in
      absurd (let never : ⊥ = cc in never)
