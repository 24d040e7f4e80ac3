use Rattle.std.proofs.Common.{[], Ok, ap, ◌∙◌, string_bytes}
use Rattle.hcc_rule.specs.declared.geometry.Geometry.{Geometry}
use Rattle.hcc_shard.specs.declared.inserting.Inserted.TheVariants as stored
use Rattle.hcc_shard.specs.declared.inserting.Pinned.TheVariants as pinned
use Rattle.hcc_player.specs.declared.run.tag.TraceTag.{TraceTag}
use Rattle.hcc_player.specs.TraceTag.{fits_trace, run_trace, said}
use Rattle.hcc_player.proofs.AloneLemmas.{exact_all}
use Rattle.hcc_player.proofs.ByteLemmas.{on_error, on_error_so, on_ok_so}
use Rattle.hcc_player.proofs.PlayRunLemmas.{answered_as, manned_new, part_as, play_cut}
use Rattle.hcc_player.proofs.PlayRunLemmas.{play_stopped, play_unbegun, play_whole}
use Rattle.hcc_player.proofs.ToldLemmas.{told_new}
use Rattle.hcc_player.proofs.run.playing.play_text.Goals as goal

pub returns-in_default-clause-part : goal.returns-in_default-clause-part
returns-in_default-clause-part g c =
    play_unbegun c.args.config (said (run_trace c.args.config c.args.text.now))
    (g.W.Write.contents c.args.writer.now)

pub returns-in_err-registers-clause-part : goal.returns-in_err-registers-clause-part
returns-in_err-registers-clause-part g c =
    on_error c.from_residual.result _
    (play_unbegun c.args.config (said (run_trace c.args.config c.args.text.now))
    (g.W.Write.contents c.args.writer.now))

pub play_lines-requires-clause-manned : goal.play_lines-requires-clause-manned
play_lines-requires-clause-manned g c =
    manned_new fits_trace c.args.config _ c.in-Ok.cache c.in-Ok.clients.items
    c.in_ok-registers.registers.items c.in-Ok.ensures.made c.in_ok-registers.ensures.empty
    (c.in_ok-registers.ensures.count ∙ c.len.ensures ∙ c.in-Ok.clients.ok.0)

pub returns-in_err-play_lines-clause-part : goal.returns-in_err-play_lines-clause-part
returns-in_err-play_lines-clause-part g c =
    let lines = said (run_trace c.args.config c.args.text.now) in
    let tag : TraceTag = record { config = c.args.config; text = c.args.text } in
    let cache = c.in-Ok.cache in
    let old = g.W.Write.contents c.args.writer.now in
    let mid = g.W.Write.contents c.play_lines.new.writer in
    on_error c.from_residual-in_err-play_lines.result _
    (play_stopped c.args.config lines old mid
    (part_as tag cache c.in-Ok.ensures.made.cache_is.tag_is c.args.config lines old mid
    (string_bytes c.new-pending.result) [] c.new-pending.ensures.bytes
    c.in_err-play_lines.ensures.part))

pub returns-clause-ok : goal.returns-clause-ok
returns-clause-ok g c =
    let lines = said (run_trace c.args.config c.args.text.now) in
    let tag : TraceTag = record { config = c.args.config; text = c.args.text } in
    let cache = c.in-Ok.cache in
    let old = g.W.Write.contents c.args.writer.now in
    let mid = g.W.Write.contents c.play_lines.new.writer in
    let new = g.W.Write.contents c.finish.new.writer in
    let rest = string_bytes c.play_lines.new.pending in
    let first = c.in-Ok.clients.items in
    let last = c.play_lines.new.clients.items in
    let empty = c.in_ok-registers.registers.items in
    let kept = c.play_lines.new.registers.items in
    on_ok_so c.finish.result _ _
    (play_whole tag cache c.args.config lines first last empty kept old mid new rest
    c.in-Ok.ensures.made
    (c.in_ok-registers.ensures.count ∙ c.len.ensures ∙ c.in-Ok.clients.ok.0)
    c.in_ok-registers.ensures.empty
    (answered_as tag cache c.in-Ok.ensures.made.cache_is.tag_is c.args.config lines first last
    empty kept old mid (string_bytes c.new-pending.result) [] rest c.new-pending.ensures.bytes
    c.in_ok-play_lines.ensures.ok)
    (λ told makes one.
    let is_of = c.in-Ok.ensures.made.cache_is in
    let exact = exact_all fits_trace c.args.config tag cache is_of
    (c.law_lookups.ensures.first c.args.config tag cache is_of one)
    (c.law_erasures.ensures c.args.config tag cache is_of one)
    (c.law_totals.ensures.usage c.args.config tag cache is_of one)
    (c.law_totals.ensures.occupancy c.args.config tag cache is_of one)
    (ap (λ (g : Geometry). g.clients) is_of.geometry ∙ one) lines told first last empty kept
    makes in (
      exact,
      told_new fits_trace c.args.config tag cache is_of one (record {
        keeps = c.law_room.ensures.stores c.args.config tag cache is_of one;
        keeps_pinned = c.law_room.ensures.pins c.args.config tag cache is_of one;
        room = c.law_room.ensures.fits c.args.config tag cache is_of one;
        room_pinned = c.law_room.ensures.fits_pinned c.args.config tag cache is_of one;
        met = λ key charge priority old new h idle.
            c.law_matches.ensures.met c.args.config tag cache is_of one c.in-Ok.ensures.began key
            charge priority old new h (c.law_room.ensures.stores c.args.config tag cache is_of one
            key charge priority (Ok stored.Dropped) old new h idle).0;
        met_pinned = λ key charge priority old new h idle.
            c.law_matches.ensures.met_pinned c.args.config tag cache is_of one
            c.in-Ok.ensures.began key charge priority old new h (c.law_room.ensures.pins
            c.args.config tag cache is_of one key charge priority (Ok pinned.Standalone) old new h
            idle).0;
      }) (c.law_kept_shown.ensures.usage cache) (c.law_kept_shown.ensures.occupancy cache) lines
          told first last empty kept makes c.in-Ok.ensures.made
          (manned_new fits_trace c.args.config tag cache first empty c.in-Ok.ensures.made
          c.in_ok-registers.ensures.empty
          (c.in_ok-registers.ensures.count ∙ c.len.ensures ∙ c.in-Ok.clients.ok.0)) exact,
    ))) c.finish.ensures.ok

pub returns-clause-part : goal.returns-clause-part
returns-clause-part g c =
    let lines = said (run_trace c.args.config c.args.text.now) in
    let tag : TraceTag = record { config = c.args.config; text = c.args.text } in
    let cache = c.in-Ok.cache in
    let old = g.W.Write.contents c.args.writer.now in
    let mid = g.W.Write.contents c.play_lines.new.writer in
    let new = g.W.Write.contents c.finish.new.writer in
    let rest = string_bytes c.play_lines.new.pending in
    let first = c.in-Ok.clients.items in
    let last = c.play_lines.new.clients.items in
    let empty = c.in_ok-registers.registers.items in
    let kept = c.play_lines.new.registers.items in
    on_error_so c.finish.result _ _
    (play_cut cache c.args.config lines first last empty kept old mid new rest
    (answered_as tag cache c.in-Ok.ensures.made.cache_is.tag_is c.args.config lines first last
    empty kept old mid (string_bytes c.new-pending.result) [] rest c.new-pending.ensures.bytes
    c.in_ok-play_lines.ensures.ok)) c.finish.ensures.part
