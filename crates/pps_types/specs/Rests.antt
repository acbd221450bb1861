-- What stands of a handle's cursor: whether there is news, or the rest of its target's records that it has still to be given. A machine keeps
-- cursors and says all of this of its history (Owed); a service keeps this instead, and that both say the same is proved. Own.
use Rattle.std.specs.Prelude.{ℕ, ◌+◌, List, [], ◌∷◌, ◌++◌, Bool, true, false, not, ◌&&◌, ◌||◌, nat_lt, if◌then◌else◌, Option, Some, None, filter, map, length, drop, zero, suc}
use Rattle.pps_types.specs.Bytes.{is_empty}
use Rattle.pps_types.specs.History.{Entry}
use Rattle.pps_types.specs.Reading.{OpenHandle, Style, Full, Delta, Queue, style, block, concerns, visible, is_chained, Answer, whole_answer, idle_answer, owed_answer}

-- What a handle has of the records: in full mode whether there is news; else nothing yet, more than its limit,
-- or the records of its target from the first that it is owed on.
pub data Progress : Type 0 where
  News : Bool → Progress
  Unread : Progress
  Over : Progress
  Owed : List Entry → Progress

-- What is owed, and what stands between in the target's kept records. A target has one list for all its handles in delta mode, so that
-- their rests are ends of one list: this is why the rest of a names handle holds a Change, which it is never shown.
abbrev pub keeps : {S : Type 0} → OpenHandle S → Entry → Bool
keeps handle e = visible handle e || (concerns handle e && is_chained handle.kind e.record_of.kind)

-- ---- lists that are read from the front

module _ {X : Type 0} where
  -- from the first that passes on
  abbrev pub from_first : (X → Bool) → List X → List X
  from_first test [] = []
  from_first test (x ∷ xs) = if test x then x ∷ xs else from_first test xs

  -- one more at the end, where there is something or it passes
  abbrev pub pushed : (X → Bool) → X → List X → List X
  pushed test y [] = if test y then y ∷ [] else []
  pushed test y (x ∷ xs) = x ∷ xs ++ y ∷ []

  -- behind the first n that pass
  abbrev pub past : (X → Bool) → ℕ → List X → List X
  past test zero xs = xs
  past test (suc n) [] = []
  past test (suc n) (x ∷ xs) = if test x then past test n xs else past test (suc n) xs

  -- how many stand before what is behind the first n that pass
  abbrev pub behind : (X → Bool) → ℕ → List X → ℕ
  behind test zero xs = 0
  behind test (suc n) [] = 0
  behind test (suc n) (x ∷ xs) = if test x then behind test n xs + 1 else behind test (suc n) xs + 1

-- ---- what a handle has seen

-- by the rest that begins with the first record that it is owed
abbrev pub stand : Style → Bool → Bool → List Entry → Progress
stand Full reads over rest = News (reads && not (is_empty rest))
stand Delta reads over rest = if over then Over else Owed rest
stand Queue reads over rest = Owed rest

abbrev pub over_limit : {S : Type 0} → OpenHandle S → List Entry → Bool
over_limit handle rest = nat_lt handle.limit (length (filter (visible handle) rest))

abbrev pub seen_of : {S : Type 0} → OpenHandle S → List Entry → Progress
seen_of handle rest = stand (style handle.kind) handle.reads (over_limit handle rest) rest

-- before the first read
abbrev pub unread : Style → Bool → Progress
unread Full reads = News reads
unread Delta reads = Unread
unread Queue reads = Unread

-- of the records from the cursor on: what is kept, from the first that is owed
abbrev pub rest_of : {S : Type 0} → OpenHandle S → List Entry → List Entry
rest_of handle entries = from_first (visible handle) (filter (keeps handle) entries)

-- what a handle has seen that has this cursor in this history
abbrev pub seen_with : {S : Type 0} → OpenHandle S → List Entry → Option ℕ → Progress
seen_with handle history None = unread (style handle.kind) handle.reads
seen_with handle history (Some cursor) = seen_of handle (rest_of handle (drop cursor history))

abbrev pub owed_in : {S : Type 0} → OpenHandle S → Progress → List Entry
owed_in handle (Owed rest) = filter (visible handle) rest
owed_in handle _ = []

abbrev pub news_in : Bool → Progress → Bool
news_in reads (News b) = b
news_in reads Unread = reads
news_in reads Over = true
news_in reads (Owed rest) = not (is_empty rest)

abbrev pub is_over : Progress → Bool
is_over Over = true
is_over _ = false

-- ---- what a read answers

-- The answer to a read of max bytes, by what everything is, and whether the target is a dead object.
abbrev pub answer : OpenHandle Progress → Progress → List ℕ → Bool → ℕ → Answer
answer handle (News true) everything dead max = whole_answer everything max
answer handle (News false) everything dead max = idle_answer dead handle.options.wait
answer handle Unread everything dead max = whole_answer everything max
answer handle Over everything dead max = whole_answer everything max
answer handle (Owed rest) everything dead max = owed_answer handle.options.wait (map (block handle) (filter (visible handle) rest)) dead max
