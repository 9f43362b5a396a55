use Rattle.entry_format.proofs.Taken.{after_head, head_in, no_last_deed}
use Rattle.entry_format.proofs.reading.fields_of.Goals as goal

pub returns-in_default-clause-none : goal.returns-in_default-clause-none
returns-in_default-clause-none c = λ entry lawful is.
    c.in_default.ensures.none (head_in entry) (after_head entry) (assumption lawful)
    (cc (c.in_ok-members.ensures.found, is))

pub returns-in_default-last_deed-clause-none : goal.returns-in_default-last_deed-clause-none
returns-in_default-last_deed-clause-none c = λ entry lawful is.
    let (is_head, stands) = c.in-Some.ensures.found in
    no_last_deed c.args.tree.now c.in_ok-names.names c.take_names.new.members c.in-Some.head entry is_head
    (rw (stands, c.in_ok-names.ensures.found.1) at c.in_ok-members.ensures.found)
    c.in_default-last_deed.ensures.none lawful is
