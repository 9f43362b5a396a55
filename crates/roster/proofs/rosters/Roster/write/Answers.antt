use Rattle.roster.proofs.Imports.{◌≡◌, ◌∙◌, ◌++◌, ap, sym, subst, Sexp, text_of, Fits, roster_tree}
use Rattle.roster.proofs.Fits.{roster_fits}
use Rattle.roster.proofs.rosters.Roster.write.Goals as goal

pub write-requires : goal.write-requires
write-requires c =
    let is : c.in_ok-tree.tree ≡ roster_tree c.args.self.now.machines =
    c.in_ok-tree.ensures ∙ ap roster_tree c.as_slice.ensures in
    subst (λ (tree : Sexp). Fits tree) (sym is) (roster_fits c.args.self.now.machines c.requires)

-- the text is that of the roster
pub returns : goal.returns
returns c =
    let is : c.in_ok-tree.tree ≡ roster_tree c.args.self.now.machines =
    c.in_ok-tree.ensures ∙ ap roster_tree c.as_slice.ensures in (
      record {
        keys = c.requires.keys;
        within = roster_fits c.args.self.now.machines c.requires;
        spelt = c.in_ok-write.ensures.ok ∙ ap (λ front. front ++ text_of c.in_ok-tree.tree) c.new-text.ensures.items
            ∙ ap text_of is;
      },
      c.requires.roster,
    )
