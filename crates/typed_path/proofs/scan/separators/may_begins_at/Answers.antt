use Rattle.typed_path.proofs.lemmas.changes.MayBegins.{block-separates, block-passed, block-last}
use Rattle.typed_path.proofs.scan.separators.may_begins_at.Goals as goal

pub returns-clause-separates : goal.returns-clause-separates
returns-clause-separates c =
    block-separates c.args.text.now c.args.at c.marks_at-separators.result c.letters_at-firsts.result c.letters_at-seconds.result c.marks_at-dots.result c.args.behind c.may_begins.result
    c.marks_at-separators.ensures c.marks_at-dots.ensures c.letters_at-firsts.ensures c.letters_at-seconds.ensures c.may_begins.ensures

pub returns-clause-passed : goal.returns-clause-passed
returns-clause-passed c =
    block-passed c.args.text.now c.args.at c.marks_at-separators.result c.letters_at-firsts.result c.letters_at-seconds.result c.marks_at-dots.result c.args.behind c.may_begins.result
    c.marks_at-separators.ensures c.marks_at-dots.ensures c.letters_at-firsts.ensures c.letters_at-seconds.ensures c.may_begins.ensures c.requires.in_range

pub returns-clause-last : goal.returns-clause-last
returns-clause-last c =
    block-last c.args.text.now c.args.at c.marks_at-separators.result c.letters_at-firsts.result c.letters_at-seconds.result c.marks_at-dots.result c.args.behind c.may_begins.result
    c.marks_at-separators.ensures c.marks_at-dots.ensures c.letters_at-firsts.ensures c.letters_at-seconds.ensures c.may_begins.ensures
