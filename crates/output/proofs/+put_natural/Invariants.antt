use Rattle.output.proofs.+put_natural.Given as goal

abbrev pub decreases-put-natural : goal.decreases-put-natural
decreases-put-natural g l = l.n
