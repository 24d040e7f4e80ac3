-- The pointer of the box stands for it: a walk of the MIR.
use Rattle.std.proofs.Common.{◌≡◌, List, [], ◌∷◌, ◌++◌, refl, sym, ap, ◌∙◌, subst}
use Rattle.std.proofs.raw_atomic.Walks.{proved_at, leaves}
use base.Fraction.{full_share}
use base.Logic.{SProp, ent, emp, id⊢, fst∗, never}
use base.Fml.{Lft, ftrue, flft}
use mir.Syntax.{Args, a_type, dcons, dnil}
use mir.MapTy.{inst_fn}
use mir.Raw.{raw as bare}
use mir.Val.{Val, vptr, vstruct, vcons, vnil}
use prog.Wp.{WpFn}
use contract.BorrowLft.{◌⊑◌, ⊑_static}
use contract.Monad.{fact, fact_i}
use contract.Running.{tables}
use types.Logic.{sem}
use types.Tokens.{lft_new}
use types.Kit.{‵, raw, ◌⊛◌, some, later, ◌$◌, ◌∵◌, !, qed, by, move, keep, drop, use0, use1, split, join, fsplit, fjoin, feq_l, pick, await, suffices}
use types.Part.{agg}
use types.Run.{enter, of_opd, returns, no_more, and_then}
use types.ByLocal.{alloc_all, pass_all, free_all, look_at, get, sets, lands_as}
use denote.Exit.{no}
use denote.Param.{bounded, layout, param}
use denote.Param.NoDrop.{glues}
use denote.RattleType.{RattleType, owns}
use denote.Builtin.{RawPtr}
use denote.RawPtr.{Ptr, block_ptr, null_ptr, ptr_val, in_a_block}
use denote.Signature.{plain}
use denote.Steps.{nothing, only, heard}
use denote.Struct.Owning.{row}
use denote.Triple.Call.{calls_at}
use denote.Triple.Clauses.{Lasts, lasts}
use denote.Triple.Spec.{triple_of}
use denote.Triple.Walked.{Stays, stay_dropped, walk_of}
use denote.Triple.Table.{framed}
use Rattle.std.proofs.alloc.Calls.{Goes-blank}
use Rattle.std_alloc.proofs.BoxSteps.Form as box
use Rattle.std_alloc.proofs.BoxSteps.Steps.{box_out, box_in}
use Rattle.std_alloc.specs.contracts.boxed.Box.{the_row as box-row}
use Rattle.std_alloc.specs.contracts.boxed.Box.into_raw as callee
use Rattle.std_alloc.proofs.boxed.Box.into_raw.Met.{met}
use Rattle.std_heap.specs.contracts.Global.{the_row as G}
use Rattle.std_heap.specs.contracts.GlobalAllocator.TheImpl as heap
use Rattle.std_heap.proofs.GlobalAllocator.TheImpl.Met.{passed}
use Rattle.hcc_c.proofs.Destruct++none.drop.Symbol.{symbol as #none}
use Rattle.hcc_c.proofs.Holders.{A, A-laws, none, boxed, built, loose}
use Rattle.hcc_c.specs.contracts.objects.Loose.of as f
use Rattle.hcc_c.proofs.objects.Loose.of.Statement.{statement}
use Rattle.hcc_c.proofs.objects.Loose.of.Code as code
use Rattle.hcc_c.specs.contracts.objects.Loose.{the_type}

pub of_spec : {M : Type 1} → statement M
unfolding code.code Rattle.hcc_c.proofs.Destruct++none.drop.Code.code
of_spec {M} 𝓤 𝓛 𝓜 𝓡 wired T L dx glue =
    let H = 𝓛.H in let 𝓣 = tables 𝓤 H 𝓜 𝓡 𝓡.env in
    let En = f.ended T dx in let c = f.clauses T dx 𝓛 𝓜.mem 𝓡.returns in
    let args : Args = bounded (a_type ∷ []) (T, tt) (dcons dx dnil) in
    let fn = inst_fn args code.function in
    let R : RattleType = param 0 T in
    let Whole : RattleType = box-row R G heap.ghosts in
    let E : box.Bx = record {
      row = T;
      laws = L;
      al = record { row = A; laws = A-laws; g = heap.ghosts; d = heap.dict; drops = none };
    } in
    let stays : Stays En.signature.params En.kept = (stay_dropped (plain (λ _. Whole)) no, tt) in
    proved_at 𝓛 En stays c 𝓜 𝓡 (Goes-blank 𝓛 1 (plain (λ _. Whole)) no (λ κs x w. tt), tt)
    (f.Key.name args) fn (code.unfolded 𝓤 H 𝓜 𝓡 wired (T, tt) dx) (λ z are.
    let v = z.0.3.0 in let us = z.0.4.0 in let a = v.alloc in
    let κ : Lft = z.0.0.0 in let q = z.0.1.0 in
    let Post : Val → SProp 𝓤 = (walk_of 𝓛 En stays c).post z in
    let Run : List Val → SProp 𝓤 = λ ws. WpFn 𝓤 H 𝓣.C 𝓣.Λ fn ws Post in
    qed 𝓛 (((‵ (flft κ q) ⊛ ‵ ftrue) ⊛ ‵ (owns (Whole ∷ []) z.0.3 z.0.4))
    ∷ (raw (fact 𝓤 (κ ⊑ T.lives)) ⊛ raw (emp 𝓤)) ∷ []) ∵
    split ! $ split ! $ move ! (2 ∷ []) $ fsplit ! $ keep ! (0 ∷ 2 ∷ 4 ∷ []) $
    move ! (2 ∷ []) $ split ! $ heard ! (κ ⊑ T.lives) (λ inside. drop ! $
    -- [the box; the token]
    use1 𝓛 (‵ ((box.B E).own_val v us)) (id⊢ 𝓤 _) $
    box_out E ! v us (λ b o h e ws fits. box_in E ! v b o v.value e refl $
    let w : Val = box.word E h b o in
    let typed = box.box_typed E h b o fits in
    suffices ! (Run (w ∷ [])) (subst (λ (xs : List Val). ent 𝓤 (Run (w ∷ [])) (Run xs))
    (sym (λ i. ws i ++ [])) (id⊢ 𝓤 (Run (w ∷ [])))) $
    enter ! 𝓣.C 𝓣.Λ fn (w ∷ []) Post $ alloc_all ! (λ l. pass_all ! refl (typed, tt) $
    sets ! (of_opd ! (get ! refl)) refl typed $
    -- the lifetime of the allocator's type
    lft_new ! tt (λ β. let μ : Lft = β ∷ [] in
    let toks = ‵ (flft κ q) ⊛ ‵ (flft μ full_share) ⊛ ‵ ftrue in
    nothing ! $ move ! (1 ∷ 0 ∷ []) $ join ! $ move ! (2 ∷ 0 ∷ []) $ join ! $ nothing ! $
    move ! (2 ∷ 0 ∷ []) $ fjoin ! $ move ! (1 ∷ 0 ∷ []) $ join ! $ nothing ! $
    use0 𝓛 (raw (fact 𝓤 (μ ⊑ A.lives))) (fact_i 𝓤 _ _ (⊑_static μ)) $ join ! $
    use0 𝓛 (raw (fact 𝓤 (κ ⊑ T.lives))) (fact_i 𝓤 _ _ inside) $ join ! $
    move ! (1 ∷ 0 ∷ []) $ join ! $
    let k = triple_of 𝓛 (callee.signature T A heap.ghosts heap.dict none dx)
    (callee.spec T A heap.ghosts heap.dict none dx 𝓛 𝓜.mem 𝓡.returns) in
    let y : k.Ghost = (((κ, (μ, tt)), (q, (full_share, tt)), tt, (v, tt), (w ∷ [], tt)), tt) in
    use1 𝓛 (raw (k.pre y)) (id⊢ 𝓤 _) $
    calls_at ! (framed 𝓤 H 𝓜 𝓣) k (met 𝓤 𝓛 𝓜 𝓡 wired.2.1.0 T A L A-laws heap.ghosts heap.dict
    none dx (passed 𝓡.env wired.2.1.1.0 wired.2.1.1.1.0 wired.2.1.1.1.1.0 wired.2.1.1.1.1.1.0 M 𝓤
    𝓛 𝓜 𝓡) (glues #none 𝓡.env wired.2.0 A A-laws M 𝓤 𝓛 𝓜 𝓡) glue) y
    (and_then ! (get ! refl) (no_more !)) (λ u.
    let end = callee.ended T A heap.ghosts heap.dict none dx in
    use1 𝓛 (later (some (λ (r : Ptr). (toks ⊛ ‵ (RawPtr.own_val r (u ∷ []))) ⊛ some (λ (ls : Lasts
    end y.0.0 y.0.3). ‵ (lasts end y.0.0 y.0.3 ls) ⊛ ‵ (boxed R a r v.value)))))
    (id⊢ 𝓤 (k.post y u)) $
    await ! tt $ pick ! (λ r. split ! $ split ! $ split ! $ move ! (2 ∷ []) $ feq_l ! (λ ep.
    move ! (2 ∷ []) $ pick ! (λ ls. split ! $ drop ! $
    in_a_block ! r (λ p. boxed R a p v.value) (fst∗ 𝓤 (never 𝓤)
    (sem 𝓛 (heap.ghosts.dealloc_token a (bare (layout T)) null_ptr))) (λ b' o' e'.
    lands_as ! (ap only (ep ∙ ap (λ (p : Ptr). ptr_val p ∷ []) e')) refl (tt, tt) $
    let pv : Val = vstruct (vcons (vptr b' o') vnil) in
    let l = (loose R).make (block_ptr b' o', a, v.value) in
    sets ! (agg ! (and_then ! (get ! refl) (no_more !))) refl (tt, (tt, tt)) $
    returns ! (look_at ! 0 refl) $ free_all ! refl $ keep ! (0 ∷ 1 ∷ []) $
    -- [the value with its token; the lifetime's token]
    use1 𝓛 (‵ ((row (the_type R)).own_val l (pv ∷ [])))
    (built R 𝓤 𝓛 𝓜 𝓡 (boxed R) (loose R) (block_ptr b' o', a, v.value)) $
    use0 𝓛 (raw (fact 𝓤 (v.value ≡ v.value))) (fact_i 𝓤 _ _ refl) $ move ! (1 ∷ 0 ∷ []) $
    nothing ! $ nothing ! $ fjoin ! $ nothing ! $ move ! (4 ∷ 0 ∷ []) $ join ! $
    by ! (leaves 𝓛 En stays c z pv l (tt, tt) (tt, tt))))))))))))
