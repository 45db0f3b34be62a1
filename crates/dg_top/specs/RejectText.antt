-- How it is printed why a candidate is no failing execution.
use Rattle.std.specs.Prelude.{ℕ, List, [], ◌++◌, codes, decimal}
use Rattle.exec_check.specs.declared.Reject.{Reject}
use Rattle.exec_check.specs.declared.Reject.TheVariants as reject
use Rattle.witness_text.specs.Witness.{event_text, events_text, name_at}

-- its name, and the handle, the event, the cell or the events that show it; want of memory is never printed
abbrev pub reject_text : List (List ℕ) → Reject → List ℕ
reject_text cells reject.MainMissing = codes "MainMissing"
reject_text cells (reject.ThreadTwice h) = codes "ThreadTwice " ++ decimal h
reject_text cells (reject.UnknownThread h) = codes "UnknownThread " ++ decimal h
reject_text cells (reject.ScriptShort h) = codes "ScriptShort " ++ decimal h
reject_text cells (reject.ScriptLong h) = codes "ScriptLong " ++ decimal h
reject_text cells (reject.BadRun h) = codes "BadRun " ++ decimal h
reject_text cells (reject.NoCreate h) = codes "NoCreate " ++ decimal h
reject_text cells (reject.NoThread h) = codes "NoThread " ++ decimal h
reject_text cells (reject.BadSource e) = codes "BadSource " ++ event_text e
reject_text cells (reject.BadOrder n) = codes "BadOrder " ++ name_at cells n
reject_text cells (reject.BadJoin e) = codes "BadJoin " ++ event_text e
reject_text cells (reject.LocalCycle l) = codes "LocalCycle" ++ events_text l
reject_text cells (reject.GlobalCycle l) = codes "GlobalCycle" ++ events_text l
reject_text cells (reject.BlockCycle l) = codes "BlockCycle" ++ events_text l
reject_text cells reject.NotFailing = codes "NotFailing"
reject_text cells reject.OutOfMemory = []
