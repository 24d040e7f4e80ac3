-- What a parse makes of the options that stand on the line of `run`.
use Rattle.std.proofs.Common.{◌≡◌, ◌∙◌, ◌++◌, ap, sym, subst, refl, ℕ, Bool, true, false, List, [], ◌∷◌}
use Rattle.std.proofs.Common.{◌≤◌, Option, Some, None, arith, codes, inl, inr, is_some, length, nat_lt}
use Rattle.std.specs.List.{find, fold}
use Rattle.std.specs.Option.{option_map_or}
use Rattle.std.specs.Prelude.{◌==◌, if◌then◌else◌, option_and_then, unwrap_or}
use Rattle.std.specs.Str.{bytes_eq}
use Rattle.std.proofs.lemmas.Slice.Eq.{bytes_eq-Decides}
use Rattle.clap.proofs.WalkLemmas.{walk_stopped}
use Rattle.clap.specs.Lexer.{long_of, long_of_rest, short_of, short_of_rest, strip_byte}
use Rattle.clap.specs.Simple.{built, entered, filled, filled_from, help_rule, names_of}
use Rattle.clap.specs.Values.{read_as, reading_of}
use Rattle.clap.specs.Walk.{Held, Outcome, Row, Rule, Step, Text, Walk, after_flag, after_step}
use Rattle.clap.specs.Walk.{arg_by_id, arg_by_long, flag_met, has_row, idle, long_met}
use Rattle.clap.specs.Walk.{long_or_other, most_values, next, nothing_held, one_of, option, option_met}
use Rattle.clap.specs.Walk.{default_rows, option_word, reading_by, row_text, rows_after, settled_rows, short_or_plain}
use Rattle.clap.specs.Walk.{takes_values, trailing, used, used_by_id, walk_from, walked, with_default}
use Rattle.clap.specs.Walk.{with_values, without}
use Rattle.clap.specs.declared.builder.value_parser.Reading.{Reading}
use Rattle.clap.specs.declared.builder.value_parser.Reading.TheVariants as reading
use Rattle.clap.specs.declared.builder.value_parser.ValueParser.{ValueParser}
use Rattle.clap.specs.declared.parser.matches.ValueSource.{ValueSource}
use Rattle.clap.specs.declared.parser.matches.ValueSource.TheVariants.{CommandLine, DefaultValue}
use Rattle.hcc_cache.specs.declared.config.Config.{Config}
use Rattle.hcc_play.specs.CommandLine.{any_u32, any_u64, cache_options, flag_option, number_option, program}
use Rattle.hcc_play.specs.Lines.{AreUses, IsUse, Size, Slots, Room, Clients, Handles, Shards, Capacity, Serials}
use Rattle.hcc_play.specs.Lines.{Seed, Strict, Marks, Use, joined, apart, alone, default_of, is_flag, last_text}
use Rattle.hcc_play.specs.Lines.{HasUses, IsConfigOf, RunsAs, name_of, size_of, text_for, text_of}
use Rattle.hcc_play.specs.Lines.{words_in, words_of}
use Rattle.hcc_play.specs.Parsed.{Used, used_by}
use Rattle.hcc_play.specs.Requests.{AsksFor, IsAsked, IsAskedBy}
use Rattle.hcc_play.specs.Settings.{GivesConfig}
use Rattle.hcc_play.specs.Values.{flag_in, number_in, number_of}
use Rattle.hcc_play.specs.declared.request.Request.{Request}
use Rattle.hcc_play.specs.declared.request.Request.TheVariants as asks
use Rattle.hcc_play.proofs.Asking.{core_run, run_blocks}

-- ---- texts

same : (t : Text) → bytes_eq t t ≡ true
same t = (bytes_eq-Decides t t).1 refl

differs_too : (a b : Text) → bytes_eq a b ≡ false → bytes_eq b a ≡ false
differs_too a b off = go (bytes_eq b a) refl
  where
    go : (t : Bool) → bytes_eq b a ≡ t → bytes_eq b a ≡ false
    go false e = e
    go true e =
        let yes = (bytes_eq-Decides a b).1 (sym ((bytes_eq-Decides b a).0 e)) in
        cc

no_dashes : (t : Text) → strip_byte 45 t ≡ None → bytes_eq t (45 ∷ 45 ∷ []) ≡ false
no_dashes [] plain = refl
no_dashes (x ∷ xs) plain = go (x == 45) refl
  where
    go : (b : Bool) → (x == 45) ≡ b → bytes_eq (x ∷ xs) (45 ∷ 45 ∷ []) ≡ false
    go false e = rw e refl
    go true e =
        let bad : Some xs ≡ None = rw e at plain in
        cc

-- ---- steps of a walk

abbrev ready : Held → ℕ → Walk
ready h p = record { held = h; waiting = idle; position = p; is_trailing = false; stopped = None }

abbrev rows_now : List Rule → Held → List Row
rows_now c h = settled_rows c h.pending h.rows

abbrev met_with : List Rule → Rule → Option Text → Held → Bool → Held × Outcome
met_with c a v h takes = if takes then option_met c a v h else flag_met c a v h

abbrev stepped : List Rule → Text → Walk → Held × Step → Walk
stepped c word w met = after_step c word w met.0 met.1

abbrev flagged : List Rule → Text → Held × Outcome → Held × Step
flagged c word met = after_flag c idle word met.0 met.1

module _ (c : List Rule) (h : Held) (p : ℕ) (word name : Text) (a : Rule)
    (dash : bytes_eq word (45 ∷ 45 ∷ []) ≡ false) (found : arg_by_long c name ≡ Some a) where
  word_step : (v : Option Text) → long_of word ≡ Some (name, v)
      → (takes : Bool) → takes_values a ≡ takes → walked c [] (ready h p) word
      ≡ stepped c word (ready h p) (flagged c word (met_with c a v h takes))
  unfolding walked
  word_step v long takes is =
      ap (λ (b : Bool). stepped c word (ready h p)
      (if b then (h, trailing p) else long_or_other c idle word (long_of word) h)) dash
      ∙ ap (λ (o : Option (Text × Option Text)). stepped c word (ready h p)
      (long_or_other c idle word o h)) long
      ∙ ap (λ (o : Option Rule). stepped c word (ready h p) (flagged c word (long_met c o v h)))
      found
      ∙ ap (λ (b : Bool). stepped c word (ready h p) (flagged c word (met_with c a v h b))) is

abbrev opened : Held → Rule → Held
opened h a = record h { pending = Some (a.id, []) }

abbrev waits_for : Held → ℕ → Rule → Walk
waits_for h p a = record (ready (opened h a) p) { waiting = option a.id }

abbrev filled_by : Held → Rule → Text → Held
filled_by h a text = record h { pending = Some (a.id, text ∷ []) }

abbrev word_taken : Option Rule → Text → Text → Held → Held × Step
word_taken o id text h = ((option_word o id text h).0, next (option_word o id text h).1)

module _ (c : List Rule) (h : Held) (p : ℕ) (text : Text) (a : Rule)
    (plain : strip_byte 45 text ≡ None) (found : arg_by_id c a.id ≡ Some a)
    (one : most_values a ≡ 1) where
  long_is : long_of text ≡ None
  long_is = ap (λ (o : Option Text).
      option_and_then long_of_rest (option_and_then (strip_byte 45) o)) plain

  short_is : short_of text ≡ None
  short_is = ap (λ (o : Option Text). option_and_then short_of_rest o) plain

  value_step : walked c [] (waits_for h p a) text ≡ ready (filled_by h a text) p
  unfolding walked
  value_step =
      ap (λ (b : Bool). stepped c text (waits_for h p a) (if b then (opened h a, trailing p)
      else long_or_other c (option a.id) text (long_of text) (opened h a))) (no_dashes text plain)
      ∙ ap (λ (o : Option (Text × Option Text)). stepped c text (waits_for h p a)
      (long_or_other c (option a.id) text o (opened h a))) long_is
      ∙ ap (λ (o : Option Text). stepped c text (waits_for h p a)
      (short_or_plain c (option a.id) text o (opened h a))) short_is
      ∙ ap (λ (o : Option Rule). stepped c text (waits_for h p a)
      (word_taken o a.id text (opened h a))) found
      ∙ ap (λ (b : Bool). stepped c text (waits_for h p a) (
        filled_by h a text,
        next (if nat_lt (if b then 1 else 0) (most_values a) then option a.id else idle),
      ))
      (same a.id)
      ∙ ap (λ (n : ℕ). stepped c text (waits_for h p a) (
        filled_by h a text,
        next (if nat_lt 1 n then option a.id else idle),
      )) one

-- ---- rows, each of another name

abbrev view : Text → List Row → Option Row
view id rows = find (λ r. bytes_eq r.id id) rows

abbrev Distinct : List Row → Type 0
Distinct [] = Unit {0}
Distinct (r ∷ rs) = (view r.id rs ≡ None) × Distinct rs

abbrev new_row : Text → Reading → ValueSource → List Text → Row
new_row id how s values = record {
  id = id;
  values = values;
  count = None;
  source = Some s;
  reading = how;
}

has_view : (id : Text) (rows : List Row) → has_row id rows ≡ is_some (view id rows)
has_view id [] = refl
has_view id (r ∷ rs) = go (bytes_eq r.id id) refl (has_view id rs)
  where
    go : (b : Bool) → bytes_eq r.id id ≡ b → has_row id rs ≡ is_some (view id rs)
        → has_row id (r ∷ rs) ≡ is_some (view id (r ∷ rs))
    go true e more = rw e refl
    go false e more = rw e more

-- a row at the end
view_here : (id : Text) (rows : List Row) (r : Row) → view id rows ≡ None → bytes_eq r.id id ≡ true
    → view id (rows ++ r ∷ []) ≡ Some r
view_here id [] r none is = rw is refl
view_here id (x ∷ xs) r none is =
    go (bytes_eq x.id id) refl (λ rest. view_here id xs r rest is)
  where
    go : (b : Bool) → bytes_eq x.id id ≡ b
        → (view id xs ≡ None → view id (xs ++ r ∷ []) ≡ Some r)
        → view id (x ∷ (xs ++ r ∷ [])) ≡ Some r
    go true e more =
        let bad : Some x ≡ None = rw e at none in
        cc
    go false e more =
        let rest : view id xs ≡ None = rw e at none in
        rw e (more rest)

view_there : (id : Text) (rows : List Row) (r : Row) → bytes_eq r.id id ≡ false
    → view id (rows ++ r ∷ []) ≡ view id rows
view_there id [] r off = rw off refl
view_there id (x ∷ xs) r off = go (bytes_eq x.id id) refl (view_there id xs r off)
  where
    go : (b : Bool) → bytes_eq x.id id ≡ b → view id (xs ++ r ∷ []) ≡ view id xs
        → view id (x ∷ (xs ++ r ∷ [])) ≡ view id (x ∷ xs)
    go true e more = rw e refl
    go false e more = rw e more

-- a row that goes
gone : (id : Text) (rows : List Row) → Distinct rows → view id (without id rows) ≡ None
gone id [] distinct = refl
gone id (r ∷ rs) distinct = go (bytes_eq r.id id) refl (gone id rs distinct.1)
  where
    go : (b : Bool) → bytes_eq r.id id ≡ b → view id (without id rs) ≡ None
        → view id (without id (r ∷ rs)) ≡ None
    go true e more =
        rw e (subst (λ (i : Text). view i rs ≡ None) ((bytes_eq-Decides r.id id).0 e) distinct.0)
    go false e more = rw e (rw e more)

stays : (id other : Text) (rows : List Row) → bytes_eq id other ≡ false
    → view other (without id rows) ≡ view other rows
stays id other [] off = refl
stays id other (r ∷ rs) off =
    go (bytes_eq r.id id) refl (bytes_eq r.id other) refl (stays id other rs off)
  where
    go : (b : Bool) → bytes_eq r.id id ≡ b → (t : Bool) → bytes_eq r.id other ≡ t
        → view other (without id rs) ≡ view other rs
        → view other (without id (r ∷ rs)) ≡ view other (r ∷ rs)
    go true e t f more =
        let apart : bytes_eq r.id other ≡ false =
        subst (λ (i : Text). bytes_eq i other ≡ false) (sym ((bytes_eq-Decides r.id id).0 e)) off in
        rw e (rw apart refl)
    go false e true f more = rw e (rw f refl)
    go false e false f more = rw e (rw f more)

-- the rows stay of other names each
none_left : (id other : Text) (rows : List Row) → view other rows ≡ None
    → view other (without id rows) ≡ None
none_left id other [] none = refl
none_left id other (r ∷ rs) none = go (bytes_eq r.id other) refl (none_left id other rs)
  where
    left : (b : Bool) → bytes_eq r.id id ≡ b → bytes_eq r.id other ≡ false
        → view other rs ≡ None → view other (without id rs) ≡ None
        → view other (without id (r ∷ rs)) ≡ None
    left true e off rest more = rw e rest
    left false e off rest more = rw e (rw off more)

    go : (b : Bool) → bytes_eq r.id other ≡ b
        → (view other rs ≡ None → view other (without id rs) ≡ None)
        → view other (without id (r ∷ rs)) ≡ None
    go true e more =
        let bad : Some r ≡ None = rw e at none in
        cc
    go false e more =
        let rest : view other rs ≡ None = rw e at none in
        left (bytes_eq r.id id) refl e rest (more rest)

distinct_without : (id : Text) (rows : List Row) → Distinct rows → Distinct (without id rows)
distinct_without id [] distinct = tt
distinct_without id (r ∷ rs) distinct =
    go (bytes_eq r.id id) refl (distinct_without id rs distinct.1)
  where
    go : (b : Bool) → bytes_eq r.id id ≡ b → Distinct (without id rs)
        → Distinct (without id (r ∷ rs))
    go true e more = rw e distinct.1
    go false e more = rw e (none_left id r.id rs distinct.0, more)

distinct_with : (rows : List Row) (r : Row) → view r.id rows ≡ None → Distinct rows
    → Distinct (rows ++ r ∷ [])
distinct_with [] r none distinct = (refl, tt)
distinct_with (x ∷ xs) r none distinct =
    go (bytes_eq x.id r.id) refl (λ rest. distinct_with xs r rest distinct.1)
  where
    go : (b : Bool) → bytes_eq x.id r.id ≡ b
        → (view r.id xs ≡ None → Distinct (xs ++ r ∷ [])) → Distinct (x ∷ (xs ++ r ∷ []))
    go true e more =
        let bad : Some x ≡ None = rw e at none in
        cc
    go false e more =
        let rest : view r.id xs ≡ None = rw e at none in
        (view_there x.id xs r (differs_too x.id r.id e) ∙ distinct.0, more rest)

-- values where the name has none
added : (id : Text) (way : Reading) (s : ValueSource) (values : List Text) (rows : List Row)
    → view id rows ≡ None
    → with_values id way s values rows ≡ rows ++ new_row id way s values ∷ []
added id way s values [] none = refl
added id way s values (r ∷ rs) none =
    go (bytes_eq r.id id) refl (added id way s values rs)
  where
    go : (b : Bool) → bytes_eq r.id id ≡ b
        → (view id rs ≡ None → with_values id way s values rs ≡ rs ++ new_row id way s values ∷ [])
        → with_values id way s values (r ∷ rs) ≡ r ∷ (rs ++ new_row id way s values ∷ [])
    go true e more =
        let bad : Some r ≡ None = rw e at none in
        cc
    go false e more =
        let rest : view id rs ≡ None = rw e at none in
        rw e (ap (λ (l : List Row). r ∷ l) (more rest))

-- ---- a use of an option

abbrev put : Text → Reading → Text → List Row → List Row
put id way text rows = with_values id way CommandLine (text ∷ []) (without id rows)

module _ (id : Text) (way : Reading) (text : Text) (rows : List Row) (distinct : Distinct rows)
  where
    abbrev row : Row
    row = new_row id way CommandLine (text ∷ [])

    put_is : put id way text rows ≡ without id rows ++ row ∷ []
    put_is = added id way CommandLine (text ∷ []) (without id rows) (gone id rows distinct)

    put_distinct : Distinct (put id way text rows)
    put_distinct = subst Distinct (sym put_is)
        (distinct_with (without id rows) row (gone id rows distinct)
        (distinct_without id rows distinct))

    put_here : view id (put id way text rows) ≡ Some row
    put_here = ap (view id) put_is
        ∙ view_here id (without id rows) row (gone id rows distinct) (same id)

    put_there : (other : Text) → bytes_eq id other ≡ false
        → view other (put id way text rows) ≡ view other rows
    put_there other off = ap (view other) put_is ∙ view_there other (without id rows) row off
        ∙ stays id other rows off

-- ---- defaults

-- the text of an option's row, or its default
abbrev text_or : Text → Option Row → Option Text
text_or before None = Some before
text_or before (Some r) = row_text r

none_of : (o : Option Row) → is_some o ≡ false → o ≡ None
none_of None e = refl
none_of (Some r) e = cc

module _ (id : Text) where
  -- a default of another name
  other_default : (rows : List Row) (name : Text) (how : Reading) (ds : List Text)
      → bytes_eq name id ≡ false → view name rows ≡ None
      → view id (default_rows name how ds rows) ≡ view id rows
  other_default rows name how [] off none = refl
  other_default rows name how (d ∷ ds) off none =
      ap (view id) (added name how DefaultValue (d ∷ ds) rows none)
      ∙ view_there id rows (new_row name how DefaultValue (d ∷ ds)) off

  with_other : (rows : List Row) (a : Rule) → bytes_eq a.id id ≡ false
      → view id (with_default rows a) ≡ view id rows
  with_other rows a off = go (has_row a.id rows) refl
    where
      go : (b : Bool) → has_row a.id rows ≡ b → view id (with_default rows a) ≡ view id rows
      go true e = rw e refl
      go false e =
          let none = none_of (view a.id rows) (sym (has_view a.id rows) ∙ e) in
          rw e (other_default rows a.id (reading_by a) a.defaults off none)

  -- a row stays
  with_row : (rows : List Row) (a : Rule) (r : Row) → view id rows ≡ Some r
      → view id (with_default rows a) ≡ Some r
  with_row rows a r is = go (bytes_eq a.id id) refl
    where
      go : (b : Bool) → bytes_eq a.id id ≡ b → view id (with_default rows a) ≡ Some r
      go false off = with_other rows a off ∙ is
      go true on =
          let there : has_row a.id rows ≡ true =
          subst (λ (n : Text). has_row n rows ≡ true) (sym ((bytes_eq-Decides a.id id).0 on))
          (has_view id rows ∙ ap (λ (o : Option Row). is_some o) is) in
          rw there is

  with_rows : (c : List Rule) (rows : List Row) (r : Row) → view id rows ≡ Some r
      → view id (fold with_default rows c) ≡ Some r
  with_rows [] rows r is = is
  with_rows (a ∷ c) rows r is = with_rows c (with_default rows a) r (with_row rows a r is)

  -- an option that off row has gets its default
  with_own : (rows : List Row) (a : Rule) (d : Text) → a.id ≡ id → a.defaults ≡ d ∷ []
      → view id rows ≡ None
      → view id (with_default rows a) ≡ Some (new_row id (reading_by a) DefaultValue (d ∷ []))
  with_own rows a d own defaults none =
      let empty : has_row a.id rows ≡ false =
      subst (λ (n : Text). has_row n rows ≡ false) (sym own)
      (has_view id rows ∙ ap (λ (o : Option Row). is_some o) none) in
      let is : with_default rows a ≡ default_rows id (reading_by a) (d ∷ []) rows =
      rw (empty, own, defaults) refl in
      ap (view id) (is ∙ added id (reading_by a) DefaultValue (d ∷ []) rows none)
      ∙ view_here id rows (new_row id (reading_by a) DefaultValue (d ∷ [])) none (same id)

  defaulted : (c : List Rule) (rows : List Row) (a : Rule) (d : Text) → arg_by_id c id ≡ Some a
      → a.defaults ≡ d ∷ [] → one_of id (fold with_default rows c)
      ≡ text_or (read_as (reading_by a) d) (view id rows)
  defaulted [] rows a d found defaults = cc
  defaulted (x ∷ c) rows a d found defaults =
      go (bytes_eq x.id id) refl (λ rest. defaulted c (with_default rows x) a d rest defaults)
    where
      here : x ≡ a → x.id ≡ id → (o : Option Row) → view id rows ≡ o
          → one_of id (fold with_default rows (x ∷ c)) ≡ text_or (read_as (reading_by a) d) o
      here is own (Some r) has =
          ap (option_and_then row_text)
          (with_rows c (with_default rows x) r (with_row rows x r has))
      here is own None none =
          let ds : x.defaults ≡ d ∷ [] = ap (λ (y : Rule). y.defaults) is ∙ defaults in
          ap (option_and_then row_text) (with_rows c (with_default rows x) _
          (with_own rows x d own ds none))
          ∙ ap (λ (y : Rule). Some (read_as (reading_by y) d)) is

      go : (b : Bool) → bytes_eq x.id id ≡ b
          → (arg_by_id c id ≡ Some a → one_of id (fold with_default (with_default rows x) c)
          ≡ text_or (read_as (reading_by a) d) (view id (with_default rows x)))
          → one_of id (fold with_default rows (x ∷ c))
          ≡ text_or (read_as (reading_by a) d) (view id rows)
      go true on more =
          let head : Some x ≡ Some a = rw on at found in
          let is : x ≡ a = ap (λ (o : Option Rule). unwrap_or o x) head in
          here is ((bytes_eq-Decides x.id id).0 on) (view id rows) refl
      go false off more =
          let rest : arg_by_id c id ≡ Some a = rw off at found in
          more rest ∙ ap (text_or (read_as (reading_by a) d)) (with_other rows x off)

-- ---- the options of `run`

abbrev parser_of : Size → ValueParser
parser_of Capacity = any_u64
parser_of Serials = any_u64
parser_of Seed = any_u64
parser_of _ = any_u32

abbrev how : Size → Reading
how size = reading_of (parser_of size)

abbrev number_rule : Size → Rule
number_rule size = filled (number_option (name_of size) (default_of size) (parser_of size))

abbrev flag_rule : Size → Rule
flag_rule size = filled (flag_option (name_of size))

abbrev run_rules : List Rule
run_rules = filled_from 1 (cache_options ++ help_rule ∷ [])

abbrev spelled : Size → Text
spelled size = codes "--" ++ name_of size

number_found : (size : Size) → is_flag size ≡ false
    → arg_by_long run_rules (name_of size) ≡ Some (number_rule size)
number_found Slots number = refl
number_found Room number = refl
number_found Clients number = refl
number_found Handles number = refl
number_found Shards number = refl
number_found Capacity number = refl
number_found Serials number = refl
number_found Seed number = refl
number_found Strict number = cc
number_found Marks number = cc

number_known : (size : Size) → is_flag size ≡ false
    → arg_by_id run_rules (name_of size) ≡ Some (number_rule size)
number_known Slots number = refl
number_known Room number = refl
number_known Clients number = refl
number_known Handles number = refl
number_known Shards number = refl
number_known Capacity number = refl
number_known Serials number = refl
number_known Seed number = refl
number_known Strict number = cc
number_known Marks number = cc

flag_found : (size : Size) → is_flag size ≡ true
    → arg_by_long run_rules (name_of size) ≡ Some (flag_rule size)
flag_found Slots flag = cc
flag_found Room flag = cc
flag_found Clients flag = cc
flag_found Handles flag = cc
flag_found Shards flag = cc
flag_found Capacity flag = cc
flag_found Serials flag = cc
flag_found Seed flag = cc
flag_found Strict flag = refl
flag_found Marks flag = refl

joined_long : (size : Size) (text : Text)
    → long_of (spelled size ++ codes "=" ++ text) ≡ Some (name_of size, Some text)
joined_long Slots text = refl
joined_long Room text = refl
joined_long Clients text = refl
joined_long Handles text = refl
joined_long Shards text = refl
joined_long Capacity text = refl
joined_long Serials text = refl
joined_long Seed text = refl
joined_long Strict text = refl
joined_long Marks text = refl

joined_dash : (size : Size) (text : Text)
    → bytes_eq (spelled size ++ codes "=" ++ text) (45 ∷ 45 ∷ []) ≡ false
joined_dash Slots text = refl
joined_dash Room text = refl
joined_dash Clients text = refl
joined_dash Handles text = refl
joined_dash Shards text = refl
joined_dash Capacity text = refl
joined_dash Serials text = refl
joined_dash Seed text = refl
joined_dash Strict text = refl
joined_dash Marks text = refl

alone_long : (size : Size) → long_of (spelled size) ≡ Some (name_of size, None)
alone_long Slots = refl
alone_long Room = refl
alone_long Clients = refl
alone_long Handles = refl
alone_long Shards = refl
alone_long Capacity = refl
alone_long Serials = refl
alone_long Seed = refl
alone_long Strict = refl
alone_long Marks = refl

alone_dash : (size : Size) → bytes_eq (spelled size) (45 ∷ 45 ∷ []) ≡ false
alone_dash Slots = refl
alone_dash Room = refl
alone_dash Clients = refl
alone_dash Handles = refl
alone_dash Shards = refl
alone_dash Capacity = refl
alone_dash Serials = refl
alone_dash Seed = refl
alone_dash Strict = refl
alone_dash Marks = refl

read_plain : (size : Size) (text : Text) → strip_byte 45 text ≡ None
    → read_as (how size) text ≡ text
read_plain Slots text plain = ap (λ (o : Option Text). unwrap_or o text) plain
read_plain Room text plain = ap (λ (o : Option Text). unwrap_or o text) plain
read_plain Clients text plain = ap (λ (o : Option Text). unwrap_or o text) plain
read_plain Handles text plain = ap (λ (o : Option Text). unwrap_or o text) plain
read_plain Shards text plain = ap (λ (o : Option Text). unwrap_or o text) plain
read_plain Capacity text plain = refl
read_plain Serials text plain = refl
read_plain Seed text plain = refl
read_plain Strict text plain = ap (λ (o : Option Text). unwrap_or o text) plain
read_plain Marks text plain = ap (λ (o : Option Text). unwrap_or o text) plain

-- the rule of an option, with its default
known : (size : Size) → (a : Rule) × (arg_by_id run_rules (name_of size) ≡ Some a)
    × (a.defaults ≡ default_of size ∷ [])
    × (read_as (reading_by a) (default_of size) ≡ default_of size)
known Slots = (number_rule Slots, refl, refl, refl)
known Room = (number_rule Room, refl, refl, refl)
known Clients = (number_rule Clients, refl, refl, refl)
known Handles = (number_rule Handles, refl, refl, refl)
known Shards = (number_rule Shards, refl, refl, refl)
known Capacity = (number_rule Capacity, refl, refl, refl)
known Serials = (number_rule Serials, refl, refl, refl)
known Seed = (number_rule Seed, refl, refl, refl)
known Strict = (flag_rule Strict, refl, refl, refl)
known Marks = (flag_rule Marks, refl, refl, refl)

-- ---- uses of options

abbrev put_use : Use → List Row → List Row
put_use (joined size text) rows = put (name_of size) (how size) text rows
put_use (apart size text) rows = put (name_of size) (how size) text rows
put_use (alone size) rows = put (name_of size) reading.AsWritten (codes "true") rows

abbrev put_all : List Use → List Row → List Row
put_all [] rows = rows
put_all (u ∷ uses) rows = put_all uses (put_use u rows)

use_distinct : (u : Use) (rows : List Row) → Distinct rows → Distinct (put_use u rows)
use_distinct (joined size text) rows = put_distinct (name_of size) (how size) text rows
use_distinct (apart size text) rows = put_distinct (name_of size) (how size) text rows
use_distinct (alone size) rows =
    put_distinct (name_of size) reading.AsWritten (codes "true") rows

-- the walk after words, with what it holds
abbrev Ends : Held → ℕ → List Text → List Row → Type 0
Ends h p words rows = (after : Held)
    × (fold (walked run_rules []) (ready h p) words ≡ ready after p)
    × (rows_now run_rules after ≡ rows)

walk_use : (u : Use) → IsUse u → (h : Held) (p : ℕ)
    → Ends h p (words_of u) (put_use u (rows_now run_rules h))
walk_use (joined size text) is h p = (
  record h { rows = used (number_rule size) (text ∷ []) (rows_now run_rules h); pending = None },
  word_step run_rules h p (spelled size ++ codes "=" ++ text) (name_of size) (number_rule size)
      (joined_dash size text) (number_found size is.0) (Some text) (joined_long size text) true
      refl,
  refl,
)
walk_use (apart size text) is h p = (
  filled_by (record h { rows = rows_now run_rules h }) (number_rule size) text,
  ap (λ (w : Walk). walked run_rules [] w text) (word_step run_rules h p (spelled size)
      (name_of size) (number_rule size) (alone_dash size) (number_found size is.0) None
      (alone_long size) true refl)
      ∙ value_step run_rules (record h { rows = rows_now run_rules h }) p text (number_rule size)
      is.1 (number_known size is.0) refl,
  ap (λ (o : Option Rule). used_by_id o (text ∷ []) (rows_now run_rules h))
      (number_known size is.0),
)
walk_use (alone size) is h p = (
  record h { rows = used (flag_rule size) [] (rows_now run_rules h); pending = None },
  word_step run_rules h p (spelled size) (name_of size) (flag_rule size) (alone_dash size)
      (flag_found size is) None (alone_long size) false refl,
  refl,
)

fold_append : {A B : Type 0} (f : B → A → B) (b : B) (xs ys : List A)
    → fold f b (xs ++ ys) ≡ fold f (fold f b xs) ys
fold_append f b [] ys = refl
fold_append f b (x ∷ xs) ys = fold_append f (f b x) xs ys

walk_uses : (uses : List Use) → AreUses uses → (h : Held) (p : ℕ)
    → Ends h p (words_in uses) (put_all uses (rows_now run_rules h))
walk_uses [] are h p = (h, refl, refl)
walk_uses (u ∷ uses) are h p =
    let one = walk_use u are.0 h p in
    let rest = walk_uses uses are.1 one.0 p in (
      rest.0,
      fold_append (walked run_rules []) (ready h p) (words_of u) (words_in uses)
          ∙ ap (λ (w : Walk). fold (walked run_rules []) w (words_in uses)) one.1 ∙ rest.1,
      rest.2 ∙ ap (put_all uses) one.2,
    )

-- the text of an option so far
abbrev so_far : Size → List Row → Option Text
so_far size rows = text_or (default_of size) (view (name_of size) rows)

put_text : (name id text d : Text) (way : Reading) (rows : List Row) → Distinct rows
    → read_as way text ≡ text
    → text_or d (view id (put name way text rows))
    ≡ (if bytes_eq name id then Some text else text_or d (view id rows))
put_text name id text d way rows distinct plain = go (bytes_eq name id) refl
  where
    go : (b : Bool) → bytes_eq name id ≡ b → text_or d (view id (put name way text rows))
        ≡ (if bytes_eq name id then Some text else text_or d (view id rows))
    go true on =
        let own = subst (λ (n : Text). view n (put name way text rows)
        ≡ Some (new_row name way CommandLine (text ∷ []))) ((bytes_eq-Decides name id).0 on)
        (put_here name way text rows distinct) in
        rw on (ap (text_or d) own ∙ ap Some plain)
    go false off = rw off (ap (text_or d) (put_there name way text rows distinct id off))

use_text : (size : Size) (u : Use) (rows : List Row) → Distinct rows → IsUse u
    → so_far size (put_use u rows)
    ≡ (if bytes_eq (name_of (size_of u)) (name_of size) then Some (text_of u) else so_far size rows)
use_text size (joined other text) rows distinct is = put_text (name_of other) (name_of size) text
    (default_of size) (how other) rows distinct (read_plain other text is.1)
use_text size (apart other text) rows distinct is = put_text (name_of other) (name_of size) text
    (default_of size) (how other) rows distinct (read_plain other text is.1)
use_text size (alone other) rows distinct is = put_text (name_of other) (name_of size)
    (codes "true") (default_of size) reading.AsWritten rows distinct refl

chosen : (b : Bool) (text before : Text) (old : Option Text) → old ≡ Some before
    → (if b then Some text else old) ≡ Some (if b then text else before)
chosen true text before old is = refl
chosen false text before old is = is

all_text : (size : Size) (uses : List Use) (rows : List Row) (before : Text) → Distinct rows
    → AreUses uses → so_far size rows ≡ Some before
    → so_far size (put_all uses rows) ≡ Some (last_text size before uses)
all_text size [] rows before distinct are is = is
all_text size (u ∷ uses) rows before distinct are is =
    all_text size uses (put_use u rows) _ (use_distinct u rows distinct) are.1
    (use_text size u rows distinct are.0
    ∙ chosen (bytes_eq (name_of (size_of u)) (name_of size)) (text_of u) before _ is)

-- ---- the line of `run`

run_used : (name : Text) (words : List Text)
    → used_by (name ∷ codes "run" ∷ words) ≡ Some (codes "run", rows_after run_rules [] words)
unfolding program used_by walked
run_used name words =
    ap (λ (w : Walk). entered (built program) w.stopped)
    (sym (walk_stopped (built program).top.rules (names_of (built program))
    (walk_from nothing_held) (codes "run") [] words))

run_line : (name : Text) (uses : List Use) → AreUses uses
    → HasUses (used_by (name ∷ codes "run" ∷ words_in uses)) uses
run_line name uses are =
    let ends = walk_uses uses are nothing_held 1 in (
      rows_after run_rules [] (words_in uses),
      run_used name (words_in uses),
      λ size.
          let rule = known size in
          let id = name_of size in
          ap (λ (w : Walk). one_of id (fold with_default (rows_now run_rules w.held) run_rules))
          ends.1
          ∙ ap (λ (rows : List Row). one_of id (fold with_default rows run_rules)) ends.2
          ∙ defaulted id run_rules (put_all uses []) rule.0 (default_of size) rule.1 rule.2
          ∙ ap (λ (d : Text). text_or d (view id (put_all uses []))) rule.3
          ∙ all_text size uses [] (default_of size) tt are refl,
    )

module _ (rows : List Row) (uses : List Use) (config : Config)
    (texts : (size : Size) → one_of (name_of size) rows ≡ Some (text_for size uses)) where
  number_is : (bits : ℕ) (size : Size) (n : ℕ) → number_in bits (name_of size) rows ≡ Some n
      → number_of bits (text_for size uses) ≡ Some n
  number_is bits size n is = sym (ap (option_and_then (number_of bits)) (texts size)) ∙ is

  flag_is : (size : Size) (set : Bool) → set ≡ flag_in (name_of size) rows
      → set ≡ bytes_eq (text_for size uses) (codes "true")
  flag_is size set is = is ∙ ap (λ (o : Option Text).
      option_map_or (λ text. bytes_eq text (codes "true")) o false) (texts size)

  config_is : GivesConfig rows config → IsConfigOf uses config
  config_is given = record {
    slots = number_is 32 Slots config.slots given.slots;
    room = number_is 32 Room config.room given.room;
    clients = number_is 32 Clients config.clients given.clients;
    handles = number_is 32 Handles config.handles given.handles;
    shards = number_is 32 Shards config.shards given.shards;
    capacity = number_is 64 Capacity config.capacity given.capacity;
    strict = flag_is Strict config.strict given.strict;
    marks = flag_is Marks config.marks given.marks;
    serials = number_is 64 Serials config.serials given.serials;
    seed = number_is 64 Seed config.seed given.seed;
  }

module _ (name : Text) (uses : List Use) (are : AreUses uses) (words : List Text)
    (is : words ≡ name ∷ codes "run" ∷ words_in uses) where
  pub too_few : length words ≤ 1 → ⊥
  too_few few =
      let bad : length (name ∷ codes "run" ∷ words_in uses) ≤ 1 =
      subst (λ (ws : List Text). length ws ≤ 1) is few in
      omega arith

  run_asked : (request : Request) → IsAskedBy (used_by words) request
      → AsksFor (codes "run") (run_line name uses are).0 request
  run_asked request h = subst (λ (o : Used). IsAskedBy o request)
      (ap used_by is ∙ (run_line name uses are).1) h

  pub runs_as : (request : Request) → IsAsked words request → RunsAs uses request
  runs_as (asks.Nothing status) h = tt
  runs_as (asks.Core setup) h = elim h [
    | inl few ↦ too_few few.0
    | inr more ↦ core_run (sym (run_asked (asks.Core setup) more.2).0)
  ]
  runs_as (asks.Blocks options paths) h = elim h [
    | inl few ↦ too_few few.0
    | inr more ↦ run_blocks (run_asked (asks.Blocks options paths) more.2).0
  ]
  runs_as (asks.Run config) h = elim h [
    | inl few ↦ absurd (too_few few.0)
    | inr more ↦ config_is (run_line name uses are).0 uses config (run_line name uses are).2
        (run_asked (asks.Run config) more.2).1
  ]
