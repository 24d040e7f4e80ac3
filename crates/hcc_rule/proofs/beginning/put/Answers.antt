use Rattle.std.proofs.Common.{◌∙◌, refl}
use Rattle.std.proofs.lemmas.List.{length-set}
use Rattle.hcc_rule.proofs.Images.Puts.{puts, data_space, occupancy_low, space_then, wide_then, words_few}
use Rattle.hcc_rule.proofs.beginning.put.Goals as goal

pub write_data-requires-clause-space : goal.write_data-requires-clause-space
write_data-requires-clause-space c =
    data_space c.args.geometry.slots c.args.geometry.room c.args.entry.now _ c.requires.slot
    c.requires.sized (length-set c.args.words.now _ c.unreferenced.result ∙ c.requires.space.wide)

pub write_data-requires-clause-low : goal.write_data-requires-clause-low
write_data-requires-clause-low c =
    words_few c.args.geometry.slots c.args.geometry.room _ c.requires.slots c.requires.room
    (length-set c.args.words.now _ c.unreferenced.result ∙ c.requires.space.wide)

pub pass_trail-requires-clause-wide : goal.pass_trail-requires-clause-wide
pass_trail-requires-clause-wide c =
    wide_then c.args.geometry.slots c.args.geometry.room c.args.number c.args.entry.now
    c.args.words.now _ c.write_data.new.words c.args.words.now c.unreferenced.result
    c.requires.slot c.requires.sized c.requires.space refl c.write_data.auto.words
    c.write_data.ensures.entry c.write_data.ensures.before c.write_data.ensures.behind

pub pass_trail-requires-clause-space : goal.pass_trail-requires-clause-space
pass_trail-requires-clause-space c =
    space_then c.args.geometry.slots c.args.geometry.room c.args.number c.args.entry.now
    c.args.words.now _ c.write_data.new.words c.args.words.now c.unreferenced.result
    c.requires.slot c.requires.sized c.requires.space refl c.write_data.auto.words
    c.write_data.ensures.entry c.write_data.ensures.before c.write_data.ensures.behind

pub overflow_add-words-5 : goal.overflow_add-words-5
overflow_add-words-5 c = record {
  fits = occupancy_low c.args.geometry.slots c.args.geometry.room c.args.number c.args.entry.now
      c.args.words.now _ c.write_data.new.words c.pass_trail.new.words c.unreferenced.result
      c.requires.slot c.requires.sized c.requires.space refl c.write_data.auto.words
      c.write_data.ensures.entry c.write_data.ensures.before c.write_data.ensures.behind
      c.pass_trail.auto.words c.pass_trail.ensures.passed c.pass_trail.ensures.others;
}

pub returns : goal.returns
returns c =
    puts c.args.geometry.slots c.args.geometry.room c.args.number c.args.entry.now
    c.args.words.now _ c.write_data.new.words c.pass_trail.new.words c.unreferenced.result
    c.requires.slot c.requires.sized c.requires.space refl c.write_data.auto.words
    c.write_data.ensures.entry c.write_data.ensures.before c.write_data.ensures.behind
    c.pass_trail.auto.words c.pass_trail.ensures.passed c.pass_trail.ensures.others
    c.unreferenced.ensures.entry
