use Rattle.entry_format.proofs.Imports.{body_tree, refl, text_of}
use Rattle.entry_format.proofs.Forms.{body_of_form, form_of, not_rising, tree_of_form}
use Rattle.entry_format.proofs.form.read_form.Goals as goal

pub returns-in_default-clause-err : goal.returns-in_default-clause-err
returns-in_default-clause-err c = λ wanted. (
  (c.args.tree.now, c.requires, refl),
  λ (entry, signature, form). c.in_default.ensures.none (body_tree entry) signature
      (tree_of_form c.args.tree.now c.requires entry signature form),
)

pub returns-in_default-2-clause-err : goal.returns-in_default-2-clause-err
returns-in_default-2-clause-err c = λ wanted.
    let parts = c.in-Some.parts in
    let none = rw c.in_default-2.is at c.in_ok-entry.ensures in (
      (c.args.tree.now, c.requires, refl),
      λ (entry, signature, form). none entry (
        form.lawful,
        body_of_form c.args.tree.now c.requires parts.body entry signature parts.signature.now c.in-Some.ensures.found
            form,
      ),
    )

pub returns-then-not-is_rising-clause-err : goal.returns-then-not-is_rising-clause-err
returns-then-not-is_rising-clause-err c = λ wanted.
    let entry = c.in-Some-2.entry in
    let parts = c.in-Some.parts in
    let (lawful, is) = rw c.in-Some-2.is at c.in_ok-entry.ensures in
    let form =
    form_of c.args.tree.now c.requires parts.body entry parts.signature.now c.in-Some.ensures.found lawful is in (
      (entry, parts.signature.now, form),
      not_rising (text_of c.args.tree.now) entry parts.signature.now form
          (λ rises. let never = c.if-not-is_rising.ensures.1 (rw c.as_slice.ensures rises) in cc),
    )
