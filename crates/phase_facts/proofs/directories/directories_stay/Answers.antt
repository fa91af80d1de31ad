use Rattle.phase_facts.proofs.Standing.{dir_stays, replay_keeps, status_keeps, counters_keep, disabling_keeps, copies_keep, links_keep}
use Rattle.phase_facts.proofs.directories.directories_stay.Goals as goal

pub returns-clause-runs : goal.returns-clause-runs
returns-clause-runs c a b dir goes there = dir_stays a b dir goes there

pub returns-clause-replay : goal.returns-clause-replay
returns-clause-replay c listed a b goes = replay_keeps listed a b goes

pub returns-clause-status : goal.returns-clause-status
returns-clause-status c dirs a b goes = status_keeps dirs a b goes

pub returns-clause-counters : goal.returns-clause-counters
returns-clause-counters c at a b goes = counters_keep at a b goes

pub returns-clause-disabling : goal.returns-clause-disabling
returns-clause-disabling c control renamed dir a b goes = disabling_keeps control renamed dir a b goes

pub returns-clause-copies : goal.returns-clause-copies
returns-clause-copies c paths a b goes = copies_keep paths a b goes

pub returns-clause-links : goal.returns-clause-links
returns-clause-links c items a b goes = links_keep items a b goes
