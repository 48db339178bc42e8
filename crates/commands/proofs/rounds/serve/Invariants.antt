use Rattle.commands.proofs.rounds.serve.Given as goal

abbrev pub ghosts-serve_through : goal.ghosts-serve_through
ghosts-serve_through g a = record { told = g.L.Listener.told a.listener; connections = a.connections; most = a.most }
