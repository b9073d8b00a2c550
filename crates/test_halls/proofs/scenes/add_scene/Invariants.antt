use Rattle.test_halls.proofs.scenes.add_scene.Given as goal

abbrev pub ghosts-add_named-L-Named : goal.ghosts-add_named-L-Named
ghosts-add_named-L-Named g a = record { all = a.blank.parts }

abbrev pub ghosts-add_named-L-Ledger : goal.ghosts-add_named-L-Ledger
ghosts-add_named-L-Ledger g a = record { name = a.blank.name; parts = a.blank.parts }

abbrev pub ghosts-add_named-L-NamesBook : goal.ghosts-add_named-L-NamesBook
ghosts-add_named-L-NamesBook g a = record { book = a.stamps.seen.book }
