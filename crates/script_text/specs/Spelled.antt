-- The one spelling of each command as a line.
use Rattle.std.specs.Prelude.{◌≡◌, ◌<◌, ℕ, List, [], ◌++◌, All, true, ◌||◌, if◌then◌else◌, codes}
use Rattle.std.specs.Fmt.{decimal}
use Rattle.pps_types.specs.declared.event.Mode.{Mode}
use Rattle.pps_types.specs.declared.event.Action.{Action}
use Rattle.pps_types.specs.declared.event.Action.TheVariants.{Poll, Pollarm, Tranarm}
use Rattle.pps_types.specs.declared.event.Request.{Request}
use Rattle.pps_types.specs.declared.event.Request.TheVariants as asks
use Rattle.pps_types.specs.declared.event.Event.{Event}
use Rattle.script_text.specs.Escapes.{escaped}

abbrev pub letters : Mode → List ℕ
letters mode =
    (if mode.r then codes "r" else []) ++ (if mode.w then codes "w" else []) ++ (if mode.c then codes "c" else [])
    ++ (if mode.t then codes "t" else [])

abbrev pub action_word : Action → List ℕ
action_word Poll = codes "poll"
action_word Pollarm = codes "pollarm"
action_word Tranarm = codes "tranarm"

abbrev pub request_words : Request → List ℕ
request_words asks.Attach = codes "attach"
request_words asks.Detach = codes "detach"
request_words asks.Receive = codes "receive"
request_words (asks.Open mode text) = codes "open " ++ letters mode ++ codes " " ++ text
request_words (asks.Read handle size) = codes "read " ++ decimal handle ++ codes " " ++ decimal size
request_words (asks.Write handle bytes) = codes "write " ++ decimal handle ++ codes " " ++ escaped bytes
request_words (asks.Close handle) = codes "close " ++ decimal handle
request_words (asks.Unlink path) = codes "unlink " ++ path
request_words (asks.Mkdir path) = codes "mkdir " ++ path
request_words (asks.List path) = codes "list " ++ path
request_words (asks.Notify handle action code value) =
    codes "notify " ++ decimal handle ++ codes " " ++ action_word action ++ codes " " ++ decimal code ++ codes " " ++ decimal value

abbrev pub command_line : Event → List ℕ
command_line event = decimal event.conn ++ codes " " ++ request_words event.request

-- an open has a letter, and what is written are bytes
abbrev pub HasSpelling : Request → Type 0
HasSpelling (asks.Open mode text) = (mode.r || mode.w || mode.c || mode.t) ≡ true
HasSpelling (asks.Write handle bytes) = All (λ b. b < 256) bytes
HasSpelling _ = Unit {0}
