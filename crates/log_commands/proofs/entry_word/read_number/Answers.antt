use Rattle.log_commands.proofs.Imports.{decimal, false≢true, IsName, subst, sym, take_rest, ◌+◌, ◌∙◌}
use Rattle.log_commands.proofs.EntryTexts.{dot_splits}
use Rattle.log_commands.proofs.entry_word.read_number.Goals as goal

-- the text after the dot would be a number
pub returns-in_default-clause-none : goal.returns-in_default-clause-none
returns-in_default-clause-none c machine number (is, fits, spelt) =
    let parts = dot_splits c.args.word.now c.in_ok-dot.dot machine (decimal number) c.in_ok-dot.ensures is spelt in
    c.in_default.ensures.exact number (fits, take_rest c.args.word.now (c.in_ok-dot.dot + 1) ∙ parts.1)

-- the text before the dot would be a name
pub returns-then-not-is_name-clause-none : goal.returns-then-not-is_name-clause-none
returns-then-not-is_name-clause-none c machine number (is, fits, spelt) =
    let parts = dot_splits c.args.word.now c.in_ok-dot.dot machine (decimal number) c.in_ok-dot.ensures is spelt in
    false≢true (c.if-not-is_name.ensures.1 (subst IsName (sym parts.0) is))
