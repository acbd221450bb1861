use Rattle.pps_dispatch.proofs.serving.serve_named.Given as goal

abbrev pub ghosts-pool : goal.ghosts-pool
ghosts-pool g a = record { count = a.count }
