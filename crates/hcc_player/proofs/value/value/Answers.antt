use Rattle.hcc_player.proofs.ValueLaws.{read_law, takes_law}
use Rattle.hcc_player.proofs.value.value.Goals as goal

pub returns-clause-read : goal.returns-clause-read
returns-clause-read c =
    read_law (λ v. v.items) c.args.most c.args.word.now c.hexadecimal.result
    c.hexadecimal.ensures.value

pub returns-clause-takes : goal.returns-clause-takes
returns-clause-takes c =
    takes_law (λ v. v.items) c.args.most c.args.word.now c.hexadecimal.result
    c.hexadecimal.ensures.value
