-- What a struct with one pointer of C does, whatever type X stands behind the pointer: it lends
-- what it stands for, it is made a box again, and it is made of a box's pointer or of none. Each is
-- a walk of the MIR; at a struct the code and the contract are those of here, by computation.
use Rattle.std.proofs.Common.{◌≡◌, ℕ, Global, [], ◌∷◌, List, map, refl, sym, ap, ◌∙◌, subst, Option, Some, None, IsSome, w64, lit<}
use Rattle.std.proofs.VecSteps.Shapes.{after}
use Rattle.std.proofs.raw_atomic.Walks.{proved, proved_at, leaves}
use Rattle.std.specs.Borrow.{Lends}
use base.Fml.{Fml, GName, ftrue, flft, fsep, Lft}
use base.Fraction.{full_share}
use base.Logic.{ent, sep, id⊢, fst∗, never, SProp, emp}
use contract.BorrowLft.{◌⊑◌, ⊑_static}
use contract.Monad.{fact, fact_i, fact_use}
use contract.Lifetimes.{Lfts}
use denote.Triple.Entry.{Res}
use contract.Running.{MachineTables, Running, tables}
use denote.Builtin.{One, RefMutOf, RawPtr}
use denote.Exit.{under, hidden, no, yes}
use denote.Follow.{follows, lends_Part}
use denote.Laws.{shows}
use denote.Memory.{cell_at, mem, part_at, part_of, lone}
use denote.Param.Laws.{Laws, arg_laws}
use denote.Param.NoDrop.{glues}
use denote.Param.{arg, layout}
use denote.RattleType.{RattleType, owns, Valss}
use denote.RawPtr.{Ptr, ptr_val, block_ptr, null_ptr, in_a_block, rawptr_Lawful}
use denote.Ref.{MutBor, MutRef, mut_vals, mut_Tells}
use denote.Signature.{Slot, plain, mut_ref_to}
use denote.Steps.{nothing, opens, peeks, heard}
use denote.Struct.Field.{RawPtr-field}
use denote.Struct.Laws.{RawPtr-laws}
use denote.Struct.Owning.{Owning, row, shape}
use denote.Struct.OwningLaws.{Tells-lowered, lawful}
use denote.Struct.Struct.{exits_of, Struct, within}
use denote.Triple.Call.{calls_at_last}
use denote.Triple.End.{Kepts}
use denote.Triple.Clauses.{Ended, Clauses, ClausesAt, closing, Lasts, lasts}
use denote.Triple.Spec.{Meets, triple_of}
use denote.Triple.Table.{framed}
use denote.Triple.Walked.{Stays, walk_of, says, stay_dropped, Goes-spent_ref, ends_at, Goes-dropped}
use mir.Raw.{raw as bare}
use mir.Syntax.{Body, Place, Ty, Fn, Callee, named, erased, mut, local, value_local, ty_ref, ty_ptr, seq, block, assign, place, rv_opd, copy, deref, field, addr_of, return, Dict, impl, tcons, tnil, dcons, dnil, call, aggregate, int}
use mir.Val.{Val, vptr, vstruct, vcons, vnil}
use prog.Erase.{raw-raw}
use prog.Model.{Model}
use prog.Wired.{Codes, AllWired, and, end}
use prog.Wp.{Closed}
use seplogic.Ra.Ura.{Ura}
use types.ByLocal.{alloc_all, pass_all, free_all, look_at, get, through, sets, sets_last, env, get_in, lands_last}
use types.Kit.{‵, raw, ◌⊛◌, some, later, at_ret, ◌$◌, ◌∵◌, !, qed, done, move, keep, use1, split, split3, join, fsplit, fsplit3, fjoin, fpack, pick, await, frame, rewrite, suffices, group, by, drop, use0, feq_i}
use types.Logic.{Logic, sem}
use types.Part.{whole, sub, look_in, agg}
use types.Run.{enter, lit, of_opd, addr, load, stop, fld, first, blocks, exec, returns, no_more, and_then}
use types.Tokens.{lft_new}
use Rattle.std_alloc.proofs.boxed.Box.{TheLaws.the_field_loose, from_raw.Met.met}
use Rattle.std_alloc.proofs.boxed.Box.from_raw.Symbol as from_raw
use Rattle.std_alloc.specs.contracts.boxed.Box.from_raw as callee
use Rattle.std_alloc.specs.contracts.boxed.Box.{the_row as box-row}
use Rattle.std_heap.proofs.Global.TheLaws.{lowers as global, the_row_laws as G-laws}
use Rattle.std_heap.proofs.GlobalAllocator.{TheImpl.Met.passed, allocate.Symbol.code as allocate, deallocate.Symbol.code as deallocate, grow.Symbol.code as grow, shrink.Symbol.code as shrink}
use Rattle.std_heap.specs.contracts.Global.{the_row as G}
use Rattle.std_heap.specs.contracts.GlobalAllocator.TheImpl as heap
use Rattle.hcc_c.proofs.Destruct++none.drop.Symbol as drop_none
use Rattle.hcc_c.specs.Places.{owns_if}
use Rattle.hcc_c.specs.contracts.objects.Loose.{the_type as loose-type}

-- such a struct: its values are a pointer, its allocator and what it stands for
pub record Holder (V : Type 0) : Type 2 where
  pub type : Owning
  pub parts : type.D → Ptr × Global × V
  pub make : Ptr × Global × V → type.D
  pub made : (d : Ptr × Global × V) → parts (make d) ≡ d

abbrev pub holder : {V : Type 0} (O : Owning) (parts : O.D → Ptr × Global × V)
    (make : Ptr × Global × V → O.D) → ((d : Ptr × Global × V) → parts (make d) ≡ d) → Holder V
holder O parts make made = record { type = O; parts = parts; make = make; made = made }

-- its type, as the struct's module makes it: the pointer is its field, and what it owns is given
abbrev pub holding : {V : Type 0} → (Global → Ptr → V → Fml) → Holder V → Owning
holding owns S = record (S.type) {
  parts = RawPtr-field ∷ [];
  as_values = λ h. ((S.parts h).0, tt);
  heap = λ h. owns (S.parts h).1 (S.parts h).0 (S.parts h).2;
  exit = λ k. hidden (under (λ h. ((S.parts h).0, tt)) (exits_of k (RawPtr ∷ [])));
}

-- it owns the box of its pointer if it has one; an object always has
abbrev pub maybe : (X : RattleType) → Global → Ptr → Option X.Denot → Fml
maybe X a p v = owns_if (heap.ghosts.dealloc_token a) X p v

abbrev pub boxed : (X : RattleType) → Global → Ptr → X.Denot → Fml
boxed X a p x = maybe X a p (Some x)

-- a box's pointer is one
abbrev pub loose : (X : RattleType) → Holder X.Denot
loose X = holder (loose-type X) (λ l. (l.at, l.alloc, l.value))
    (λ d. record { at = d.0; alloc = d.1; value = d.2 }) (λ d. refl)

-- its machine value
abbrev word : Ptr → Val
word p = vstruct (vcons (ptr_val p) vnil)

-- Code and signatures, by what differs.
abbrev function : (lifetimes params : ℕ) (locals : List Ty) → Body → Fn
function n k locals body = record {
  lifetimes = n;
  outlives = [];
  ty_params = [];
  givens = 0;
  params = k;
  locals = map (λ τ. local τ value_local) locals;
  body = body;
}

abbrev ended : (n : ℕ) (params : List (Slot n)) → Slot n → Kepts params → Ended
ended n params result kept = record {
  signature = record { lifetimes = n; outlives = []; params = params; result = result };
  kept = kept;
}

abbrev copies : ℕ → Place → Body
copies i from = assign (place i []) (rv_opd (copy from))

-- The code, over the types: to lend, to take out, to put into a place, and to make none.
abbrev pub lending : RattleType → RattleType → Fn
lending object inside = function 1 1
    (ty_ref (named 0) mut inside.written.ty ∷ ty_ref (named 0) mut object.written.ty
    ∷ ty_ref erased mut inside.written.ty ∷ ty_ptr ∷ ty_ptr ∷ [])
    (seq (block (seq (copies 3 (place 1 (deref (lone object.mir) ∷ field 0 ∷ [])))
    (seq (copies 4 (place 3 []))
    (assign (place 2 []) (addr_of (place 4 (deref (lone inside.mir) ∷ [])))))))
    (seq (copies 0 (place 2 [])) return))

-- the allocator as the call of `from_raw` passes it
abbrev pub A : RattleType
A = arg (bare (lone G.mir)) no G

abbrev pub A-laws : Laws A
A-laws = arg_laws (bare (lone G.mir)) no G G-laws refl

abbrev pub none : Dict
none = impl (drop_none.symbol ∷ []) (tcons (layout A) tnil) dnil

abbrev pub taking : RattleType → RattleType → Fn
taking object inside = let box = lone (box-row inside G heap.ghosts).mir in
    function 0 2 (box ∷ lone object.mir ∷ lone G.mir ∷ ty_ptr ∷ box ∷ ty_ptr ∷ [])
    (seq (copies 3 (place 1 (field 0 ∷ []))) (seq (block (seq (copies 5 (place 3 []))
    (call (from_raw.name
    (tcons (bare (lone inside.mir)) (tcons (layout A) tnil), dcons heap.dict (dcons none dnil)))
    (copy (place 2 []) ∷ copy (place 5 []) ∷ []) (place 4 []))))
    (seq (copies 0 (place 4 [])) return)))

abbrev pub calls : Codes
calls = and drop_none.code (and from_raw.code (and allocate (and deallocate (and grow (and shrink
    end)))))

abbrev pub placing : RattleType → RattleType → Fn
placing space loose = function 0 1 (lone space.mir ∷ lone loose.mir ∷ ty_ptr ∷ ty_ptr ∷ [])
    (seq (copies 2 (place 1 (field 0 ∷ []))) (seq (copies 3 (place 2 []))
    (seq (assign (place 0 []) (aggregate (copy (place 3 []) ∷ []))) return)))

abbrev pub emptying : RattleType → Fn
emptying space = function 0 0 (lone space.mir ∷ [])
    (seq (assign (place 0 []) (aggregate (int w64 0 ∷ []))) return)

module _ (X : RattleType) {M : Type 1} (𝓤 : Ura M) (𝓛 : Logic 𝓤) (𝓜 : Model 𝓤 𝓛.H)
    (𝓡 : Running 𝓤 𝓛.H 𝓜) where
  abbrev 𝓣 : MachineTables 𝓤 𝓛.H 𝓜
  𝓣 = tables 𝓤 𝓛.H 𝓜 𝓡 𝓡.env

  -- What is asked, and said of the result.
  abbrev clause : (T : Ended) (κs : Lfts T.signature.lifetimes) → SProp 𝓤
      → (Res T.signature κs → SProp 𝓤) → ClausesAt 𝓤 T κs
  clause T κs asks tells =
      record { ghost = Unit {0}; requires = λ g. asks; ensures = λ g result end. tells result }

  -- What a pointer owns is that of the struct that is made of it.
  pub built : {V : Type 0} (owned : Global → Ptr → V → Fml) (S : Holder V) (d : Ptr × Global × V)
      → ent 𝓤 (sem 𝓛 (owned d.1 d.0 d.2))
      (sem 𝓛 ((row (holding owned S)).own_val (S.make d) (word d.0 ∷ [])))
  built {V} owned S d =
      let w : Val = word d.0 in let O = shape (holding owned S) in
      qed 𝓛 (‵ (owned d.1 d.0 d.2) ∷ []) ∵
      nothing ! $ feq_i ! (List Val) (ptr_val d.0 ∷ []) (ptr_val d.0 ∷ []) refl $ fjoin ! $
      feq_i ! (List Val) (w ∷ []) (w ∷ []) refl $ fjoin ! $
      fpack ! (Valss (RawPtr ∷ [])) (within O (d.0, tt) (w ∷ [])) (ptr_val d.0 ∷ [], tt) $ fjoin ! $
      rewrite ! 0 (λ (e : Ptr × Global × V).
      ‵ (fsep ((Struct O).own_val (e.0, tt) (w ∷ [])) (owned e.1 e.0 e.2)))
      (sym (S.made d)) refl $ done !

  module _ (S : Holder X.Denot) (one : One X.mir) where
    abbrev R : RattleType
    R = row (holding (boxed X) S)

    abbrev lent : Ended
    lent = ended 1 (RefMutOf (0 ∷ []) tt (plain (λ κs. R)) (λ κs. tt) ∷ [])
        (RefMutOf (0 ∷ []) tt (plain (λ κs. X)) (λ κs. one)) (no, tt)

    abbrev lends_clauses : Clauses 𝓤 lent
    lends_clauses κs args = let d = S.parts args.0.now in clause lent κs (emp 𝓤) (λ result. sep 𝓤
        (sem 𝓛 (Lends R X args.0 result (λ v. S.make (d.0, d.1, v)))) (fact 𝓤 (result.now ≡ d.2)))

    -- It lends what it stands for, and stands for whatever that becomes.
    pub lends : {k : Callee} → Closed 𝓤 𝓛.H 𝓣.C 𝓣.Λ k (lending R X)
        → Meets 𝓛 lent.signature (𝓣.C k) (closing 𝓛 lent lends_clauses)
    unfolding part_of
    lends closed = let fn = lending R X in
        let c = lends_clauses in let stays : Stays lent.signature.params lent.kept =
        (stay_dropped (mut_ref_to (0 ∷ []) tt (plain (λ _. R))) no, tt) in
        let W = walk_of 𝓛 lent stays c in
        proved 𝓛 lent stays c 𝓜 𝓡 (Goes-spent_ref 𝓛 1 (0 ∷ []) tt (plain (λ _. R)), tt) _ fn closed
        (λ κs. (mut_vals, tt)) (λ κs. (mut_Tells (named 0) κs.0 R, tt)) (λ κs qs bounds a g are.
        let κ = κs.0 in let q = qs.0 in let h = a.0.now in let vs = mut_vals a.0 in
        let b = a.0.ref_ptr.0 in let o = a.0.ref_ptr.1 in let γ = a.0.ghost_name in
        let p = (S.parts h).0 in let al = (S.parts h).1 in let x = (S.parts h).2 in
        let y : W.Ghost = ((κs, qs, bounds, a, (vs, tt)), tt) in
        let Token : Ptr → Fml = heap.ghosts.dealloc_token al (bare (lone X.mir)) in
        let F : X.Denot → S.type.D = λ v. S.make (p, al, v) in
        qed 𝓛 (((‵ (flft κ q) ⊛ ‵ ftrue) ⊛ ‵ ((MutRef (named 0) κ R).own_val a.0 vs) ⊛ ‵ ftrue)
        ∷ ‵ ftrue ∷ []) ∵ split ! $ split ! $ move ! (2 ∷ []) $ split ! $ keep ! (0 ∷ 2 ∷ []) $
        enter ! _ _ _ _ _ $ alloc_all ! (λ l. pass_all ! refl ((tt, tt), tt) $
        fsplit3 ! $ move ! (1 ∷ 2 ∷ 3 ∷ []) $ opens ! tt R b o (λ us.
        move ! (1 ∷ []) $ peeks ! R _ (shows 𝓛 R) h us (λ is. fsplit ! $ drop ! $
        in_a_block ! p (λ p. boxed X al p x) (fst∗ 𝓤 (never 𝓤) (sem 𝓛 (Token null_ptr)))
        (λ b' o' e. fsplit ! $
        -- [the value; the right to free it; the cell; the borrow, in three]
        let w = word (block_ptr b' o') in
        rewrite ! 2 (λ (ws : List Val). ‵ (cell_at full_share R.mir ws b o))
        (Tells-lowered (holding (boxed X) S) (RawPtr-laws, tt) h us is
        ∙ ap (λ p. word p ∷ []) e) refl $
        first ! $ blocks ! $ sets ! (of_opd ! (load ! (through ! refl (fld ! refl (stop !)))
        (look_in ! 2 (sub ! 0 refl (whole !))))) refl (tt, tt) $
        sets ! (of_opd ! (get ! refl)) refl (tt, tt) $
        sets_last ! (addr ! (through ! refl (stop !))) refl (tt, tt) $
        exec ! 𝓣.C 𝓣.Λ (env fn.locals l) (after 1 fn.body) (at_ret _ (W.post y)) $
        sets ! (of_opd ! (get ! refl)) refl (tt, tt) $
        -- whatever the value becomes, the object is whole again with it
        let Rest : Fml = fsep (Token (block_ptr b' o')) (cell_at full_share R.mir (w ∷ []) b o) in
        let back : (v : X.Denot) → ent 𝓤 (sep 𝓤 (sem 𝓛 ((mem X).own_at v b' o')) (sem 𝓛 Rest))
        (sem 𝓛 ((mem R).own_at (F v) b o)) = λ v.
        qed 𝓛 (‵ (part_at X full_share v b' o') ∷ ‵ Rest ∷ []) ∵
        move ! (1 ∷ []) $ fsplit ! $ move ! (2 ∷ 0 ∷ []) $ fjoin ! $
        use1 𝓛 (‵ (R.own_val (S.make (block_ptr b' o', al, v)) (w ∷ [])))
        (built (boxed X) S (block_ptr b' o', al, v)) $
        rewrite ! 0 (λ p. ‵ (R.own_val (S.make (p, al, v)) (w ∷ []))) (sym e) refl $
        move ! (1 ∷ 0 ∷ []) $ fjoin ! $
        fpack ! (List Val) (λ (ws : List Val). fsep (cell_at full_share R.mir ws b o)
        (R.own_val (F v) ws)) (w ∷ []) $ done ! in
        move ! (1 ∷ 2 ∷ []) $ fjoin ! $ move ! (2 ∷ 3 ∷ 4 ∷ 1 ∷ 0 ∷ []) $ group ! 5 $
        let r : GName → MutBor X.Denot =
        λ γ'. record { ref_ptr = (b', o'); ghost_name = γ'; now = x } in let v = vptr b' o' in
        use1 𝓛 (later (some (λ (γ' : GName). ‵ ((MutRef (named 0) κ X).own_val (r γ') (v ∷ []))
        ⊛ ‵ (flft κ q) ⊛ ‵ (follows R X γ γ' F)))) (lends_Part 𝓛 R X F (named 0) κ q b o b' o' γ
        (sem 𝓛 Rest) back (R.coded.code h) (R.coded.code h) x) $ await ! tt $ pick ! (λ γ'.
        split3 ! $ returns ! (look_at ! 0 refl) $ free_all ! refl $ keep ! (0 ∷ 1 ∷ 2 ∷ []) $
        suffices ! _ (ends_at 𝓛 lent stays c y v (r γ') (tt, tt) (tt, tt)) $
        nothing ! $ nothing ! $ fjoin ! $ join ! $ nothing ! $ move ! (2 ∷ 0 ∷ []) $ join ! $
        join ! $ frame ! $ says ! refl $ done !))))))

  module _ (X-laws : Laws X) (static : X.lives ≡ []) where
    abbrev T : RattleType
    T = arg (bare (lone X.mir)) no X

    abbrev Whole : RattleType
    Whole = box-row X G heap.ghosts

    -- Of what a struct owns: what its value is asked, and what is said of it and of the box's.
    module _ {V : Type 0} (owned : Global → Ptr → V → Fml) (S : Holder V) (asks : V → SProp 𝓤)
        (tells : V → X.Denot → Type 0) where
      abbrev I : Owning
      I = holding owned S

      abbrev taken : Ended
      taken = ended 0 (plain (λ κs. row I) ∷ plain (λ κs. G) ∷ []) (plain (λ κs. Whole))
          (yes, (yes, tt))

      abbrev takes_clauses : Clauses 𝓤 taken
      takes_clauses κs args = let v = (S.parts args.0).2 in
          clause taken κs (asks v) (λ result. fact 𝓤 (tells v result.value))

      abbrev pub Takes : Type 2
      Takes = ((a : Global) (p : Ptr) (x : X.Denot) → boxed T a p x ≡ boxed X a p x)
          → (k : Callee) → Closed 𝓤 𝓛.H 𝓣.C 𝓣.Λ k (taking (row I) X) → AllWired 𝓡.env calls
          → Meets 𝓛 taken.signature (𝓣.C k) (closing 𝓛 taken takes_clauses)

      -- Its pointer is made a box again.
      takes_by : ((v : V) → ent 𝓤 (asks v) (fact 𝓤 ((x : X.Denot) × tells v x)))
          → ((a : Global) (p : Ptr) (v : V) (x : X.Denot) → tells v x → owned a p v ≡ boxed X a p x)
          → Takes
      unfolding Rattle.hcc_c.proofs.Destruct++none.drop.Code.code
      takes_by finds turns same k closed wired =
          let c = takes_clauses in let fn = taking (row I) X in
          let stays : Stays taken.signature.params taken.kept =
          (stay_dropped (plain (λ _. row I)) yes, (stay_dropped (plain (λ _. G)) yes, tt)) in
          let go = Goes-dropped 𝓛 0 (plain (λ _. G)) yes (λ κs x w. refl) in
          let W = walk_of 𝓛 taken stays c in proved 𝓛 taken stays c 𝓜 𝓡
          (Goes-dropped 𝓛 0 (plain (λ _. row I)) yes (λ κs x w. refl), (go, tt)) _ fn closed
          (λ κs. (λ h. word (S.parts h).0 ∷ [], (λ al. global.lowered al ∷ [], tt)))
          (λ κs. (Tells-lowered I (RawPtr-laws, tt), (global.val_is, tt)))
          (λ κs qs bounds args g are.
          let p = (S.parts args.0).0 in let a = (S.parts args.0).1 in let v = (S.parts args.0).2 in
          let al = args.1.0 in let w : Val = word p in let gw : Val = global.lowered al in
          let z : W.Ghost = ((κs, qs, bounds, args, (w ∷ [], (gw ∷ [], tt))), tt) in
          let good = ((lawful I (RawPtr-laws, tt) 𝓛).typed args.0 (w ∷ []) are.0).0 in
          let fits = ((rawptr_Lawful 𝓛).typed p (ptr_val p ∷ []) refl).0 in
          qed 𝓛 ((‵ ftrue ⊛ ‵ (owns (row I ∷ G ∷ []) args (w ∷ [], (gw ∷ [], tt))))
          ∷ raw (asks v) ∷ []) ∵ split ! $ drop ! $ move ! (1 ∷ []) $
          use1 𝓛 (raw (fact 𝓤 _)) (finds v) $ heard ! _ (λ found. let x = found.0 in
          fsplit ! $ fsplit ! $ move ! (2 ∷ 1 ∷ []) $ fsplit ! $ keep ! (2 ∷ 0 ∷ []) $
          rewrite ! 0 (λ (F : Fml). ‵ F) (turns a p v x found.1 ∙ sym (same a p x)) refl $
          enter ! _ _ _ _ _ $ alloc_all ! (λ l. pass_all ! refl (good, ((tt, ((tt, tt), tt)), tt)) $
          sets ! (of_opd ! (get_in ! (fld ! refl (stop !)) (sub ! 0 refl (whole !)))) refl fits $
          first ! $ blocks ! $ sets ! (of_opd ! (get ! refl)) refl fits $
          -- the two lifetimes of the call, what it asks, and what it is given
          nothing ! $ lft_new ! tt (λ β. let μ : Lft = β ∷ [] in join ! $
          lft_new ! tt (λ α. let κ : Lft = α ∷ [] in join ! $ move ! (1 ∷ 2 ∷ 0 ∷ []) $
          use0 𝓛 (raw (fact 𝓤 (μ ⊑ A.lives))) (fact_i 𝓤 _ _ (⊑_static μ)) $ join ! $
          use0 𝓛 (raw (fact 𝓤 (κ ⊑ T.lives)))
          (fact_i 𝓤 _ _ (subst (λ (ls : Lft). κ ⊑ ls) (sym static) (⊑_static κ))) $ join ! $
          move ! (1 ∷ 2 ∷ 0 ∷ []) $ nothing ! $ feq_i ! (List Val) (ptr_val p ∷ []) _ refl $
          fjoin ! $ move ! (1 ∷ 0 ∷ []) $ fjoin ! $ move ! (1 ∷ 0 ∷ []) $ join ! $ join ! $
          let K = triple_of 𝓛 (callee.signature T A heap.ghosts heap.dict none) (callee.spec T A
          heap.ghosts heap.dict none 𝓛 𝓜.mem 𝓡.returns) in
          let ls : Lfts 2 = (κ, (μ, tt)) in let B : RattleType = box-row T A heap.ghosts in
          let vs : Valss (A ∷ RawPtr ∷ []) = (gw ∷ [], (ptr_val p ∷ [], tt)) in
          let y : K.Ghost = ((ls, (full_share, (full_share, tt)), tt, (al, (p, tt)), vs), x) in
          use1 𝓛 (raw (K.pre y)) (id⊢ 𝓤 _) $ calls_at_last ! (framed 𝓤 𝓛.H 𝓜 𝓣) K
          (met 𝓤 𝓛 𝓜 𝓡 wired.1.0 T A (arg_laws (layout T) no X X-laws (raw-raw (lone X.mir))) A-laws
          heap.ghosts heap.dict none
          (passed 𝓡.env wired.1.1.0 wired.1.1.1.0 wired.1.1.1.1.0 wired.1.1.1.1.1.0 M 𝓤 𝓛 𝓜 𝓡)
          (glues drop_none.symbol 𝓡.env wired.0 A A-laws M 𝓤 𝓛 𝓜 𝓡)) y
          (and_then ! (get ! refl) (and_then ! (get ! refl) (no_more !))) (λ u.
          let end = callee.ended T A heap.ghosts heap.dict none in
          use1 𝓛 (later (some (λ (r : B.Denot).
          ((‵ (flft κ full_share) ⊛ ‵ (flft μ full_share) ⊛ ‵ ftrue) ⊛ ‵ (B.own_val r (u ∷ [])))
          ⊛ some (λ (ls : Lasts end y.0.0 y.0.3). ‵ (lasts end y.0.0 y.0.3 ls)
          ⊛ (raw (fact 𝓤 (r.value ≡ x)) ⊛ raw (fact 𝓤 (r.alloc ≡ al)))))))
          (id⊢ 𝓤 (K.post y u)) $ await ! tt $ pick ! (λ r. split ! $ split ! $ drop ! $
          move ! (1 ∷ []) $ pick ! (λ ls. split ! $ drop ! $ split ! $ heard ! _ (λ gives. drop ! $
          fsplit ! $ move ! (1 ∷ []) $ rewrite ! 0 (λ (F : Fml). ‵ F) (same r.alloc r.ptr r.value)
          refl $ move ! (1 ∷ 0 ∷ []) $ fjoin ! $ peeks ! Whole _ (shows 𝓛 Whole) r (u ∷ []) (λ p.
          let good = (((the_field_loose X G heap.ghosts X-laws G-laws).lawful 𝓛).typed r _ p).0 in
          lands_last ! refl good $
          exec ! 𝓣.C 𝓣.Λ (env fn.locals l) (after 2 fn.body) (at_ret _ (W.post z)) $
          sets ! (of_opd ! (get ! refl)) refl good $ returns ! (look_at ! 0 refl) $
          free_all ! refl $ keep ! (0 ∷ []) $ use0 𝓛 (raw (fact 𝓤 (tells v r.value)))
          (fact_i 𝓤 _ _ (subst (tells v) (sym gives) found.1)) $
          move ! (1 ∷ 0 ∷ []) $ nothing ! $ nothing ! $ fjoin ! $ nothing ! $ fjoin ! $ nothing ! $
          by ! (leaves 𝓛 taken stays c z u r (tt, (tt, tt)) (tt, (tt, tt)))))))))))))

    -- What an object stands for, and what is in a place.
    pub takes : (S : Holder X.Denot) → Takes (boxed X) S (λ v. emp 𝓤) (λ v x. x ≡ v)
    takes S = takes_by (boxed X) S (λ v. emp 𝓤) (λ v x. x ≡ v) (λ v. fact_i 𝓤 _ (emp 𝓤) (v, refl))
        (λ a p v x e. ap (boxed X a p) (sym e))

    pub takes_out : (S : Holder (Option X.Denot))
        → Takes (maybe X) S (λ v. fact 𝓤 (IsSome v)) (λ v x. v ≡ Some x)
    takes_out S = takes_by (maybe X) S (λ v. fact 𝓤 (IsSome v)) (λ v x. v ≡ Some x)
        (elim [ None ↦ fact_use 𝓤 _ (id⊢ 𝓤 _) (λ has. cc) | Some x ↦ fact_i 𝓤 _ _ (x, refl) ])
        (λ a p v x e. ap (maybe X a p) e)

  module _ (S : Holder (Option X.Denot)) where
    abbrev P : RattleType
    P = row (holding (maybe X) S)

    abbrev L : Owning
    L = holding (boxed X) (loose X)

    abbrev placed : Ended
    placed = ended 0 (plain (λ κs. row L) ∷ []) (plain (λ κs. P)) (yes, tt)

    abbrev places_clauses : Clauses 𝓤 placed
    places_clauses κs args =
        clause placed κs (emp 𝓤) (λ result. fact 𝓤 ((S.parts result).2 ≡ Some args.0.value))

    -- A box's pointer is put into it.
    pub places : {k : Callee} → Closed 𝓤 𝓛.H 𝓣.C 𝓣.Λ k (placing P (row L))
        → Meets 𝓛 placed.signature (𝓣.C k) (closing 𝓛 placed places_clauses)
    places closed =
        let c = places_clauses in let stays : Stays placed.signature.params placed.kept =
        (stay_dropped (plain (λ _. row L)) yes, tt) in let W = walk_of 𝓛 placed stays c in
        proved 𝓛 placed stays c 𝓜 𝓡
        (Goes-dropped 𝓛 0 (plain (λ _. row L)) yes (λ κs x w. refl), tt) _ (placing P (row L))
        closed (λ κs. (λ l. word l.at ∷ [], tt)) (λ κs. (Tells-lowered L (RawPtr-laws, tt), tt))
        (λ κs qs bounds args g are. let l = args.0 in let w : Val = word l.at in
        let z : W.Ghost = ((κs, qs, bounds, args, (w ∷ [], tt)), tt) in
        let good = ((lawful L (RawPtr-laws, tt) 𝓛).typed l (w ∷ []) are.0).0 in
        let fits = ((rawptr_Lawful 𝓛).typed l.at (ptr_val l.at ∷ []) refl).0 in
        let d : Ptr × Global × Option X.Denot = (l.at, l.alloc, Some l.value) in let r = S.make d in
        qed 𝓛 ((‵ ftrue ⊛ ‵ (owns (row L ∷ []) args (w ∷ [], tt))) ∷ raw (emp 𝓤) ∷ []) ∵
        split ! $ drop ! $ fsplit ! $ keep ! (0 ∷ []) $ fsplit ! $ drop ! $
        enter ! _ _ _ _ _ $ alloc_all ! (λ l. pass_all ! refl (good, tt) $
        sets ! (of_opd ! (get_in ! (fld ! refl (stop !)) (sub ! 0 refl (whole !)))) refl fits $
        sets ! (of_opd ! (get ! refl)) refl fits $
        sets ! (agg ! (and_then ! (get ! refl) (no_more !))) refl good $
        returns ! (look_at ! 0 refl) $ free_all ! refl $ keep ! (0 ∷ []) $
        use1 𝓛 (‵ (P.own_val r (w ∷ []))) (built (maybe X) S d) $
        use0 𝓛 (raw (fact 𝓤 ((S.parts r).2 ≡ d.2))) (fact_i 𝓤 _ _ (λ i. (S.made d i).2)) $
        move ! (1 ∷ 0 ∷ []) $ nothing ! $ nothing ! $ fjoin ! $ nothing ! $
        by ! (leaves 𝓛 placed stays c z w r (tt, tt) (tt, tt))))

    abbrev emptied : Ended
    emptied = ended 0 [] (plain (λ κs. P)) tt

    abbrev empties_clauses : Clauses 𝓤 emptied
    empties_clauses κs args =
        clause emptied κs (emp 𝓤) (λ result. fact 𝓤 ((S.parts result).2 ≡ None))

    -- One with none is made.
    pub empties : {k : Callee} → Closed 𝓤 𝓛.H 𝓣.C 𝓣.Λ k (emptying P)
        → Meets 𝓛 emptied.signature (𝓣.C k) (closing 𝓛 emptied empties_clauses)
    empties closed =
        let c = empties_clauses in let a : Global = record { memory = record { seal = tt } } in
        proved_at 𝓛 emptied tt c 𝓜 𝓡 tt _ (emptying P) closed (λ z are.
        let d : Ptr × Global × Option X.Denot = (null_ptr, a, None) in let r = S.make d in
        qed 𝓛 ((‵ ftrue ⊛ ‵ (owns [] z.0.3 z.0.4)) ∷ raw (emp 𝓤) ∷ []) ∵
        split ! $ drop ! $ keep ! [] $ enter ! _ _ _ _ _ $ alloc_all ! (λ l. pass_all ! refl tt $
        sets ! (agg ! (and_then ! (lit ! tt) (no_more !))) refl
        (tt, (record { fits = lit< tt }, tt)) $
        returns ! (look_at ! 0 refl) $ free_all ! refl $ keep ! [] $
        nothing ! $ use1 𝓛 (‵ (P.own_val r (word null_ptr ∷ []))) (built (maybe X) S d) $
        use0 𝓛 (raw (fact 𝓤 ((S.parts r).2 ≡ None))) (fact_i 𝓤 _ _ (λ i. (S.made d i).2)) $
        move ! (1 ∷ 0 ∷ []) $ nothing ! $ nothing ! $
        by ! (leaves 𝓛 emptied tt c z (word null_ptr) r tt tt)))
