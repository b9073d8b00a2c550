use Rattle.govisd_service.proofs.script.run_script.Given as goal

abbrev pub ghosts-serve_named-L-Named : goal.ghosts-serve_named-L-Named
ghosts-serve_named-L-Named g a = record { all = a.blank.parts }

abbrev pub ghosts-serve_named-L-Ledger : goal.ghosts-serve_named-L-Ledger
ghosts-serve_named-L-Ledger g a = record { name = a.blank.name; parts = a.blank.parts }

abbrev pub ghosts-serve_named-L-NamesBook : goal.ghosts-serve_named-L-NamesBook
ghosts-serve_named-L-NamesBook g a = record { book = a.stamps.seen.book }
