use Rattle.commit_turn.proofs.turn.Turn.split.Given as goal

abbrev pub ghosts-part : goal.ghosts-part
ghosts-part g a = record { session = a.session.0 }
