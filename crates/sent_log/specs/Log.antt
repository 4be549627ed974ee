-- The log of what a host put: the last frames, each by its packet hash and by whom it was for.
use Rattle.std.specs.Prelude.{◌≡◌, ℕ, ◌&&◌, Bool, List, [], ◌∷◌, take}
use Rattle.std.specs.List.{list_any}
use Rattle.std.specs.Str.{bytes_eq}
use Rattle.sent_log.specs.declared.log.Noted.{Noted}

-- a log: how many frames it has room for, and those that it keeps, the newest first
pub record Log : Type 0 where
  pub room : ℕ
  pub frames : List Noted

-- an empty log
abbrev pub empty_log : ℕ → Log
empty_log room = record { room = room; frames = [] }

-- the log with one more frame, which pushes out the oldest where there is no room
abbrev pub with_frame : Log → Noted → Log
with_frame log frame = record { room = log.room; frames = take log.room (frame ∷ log.frames) }

-- a frame of this packet hash
abbrev pub has_hash : List ℕ → Noted → Bool
has_hash hash frame = bytes_eq frame.hash hash

-- a frame of this packet hash for this key identifier
abbrev pub is_frame_to : List ℕ → List ℕ → Noted → Bool
is_frame_to hash to frame = bytes_eq frame.hash hash && bytes_eq frame.to.bytes to

-- a frame of this packet hash for this key identifier is among these
abbrev pub is_logged : List Noted → List ℕ → List ℕ → Bool
is_logged frames hash to = list_any (is_frame_to hash to) frames

-- a frame of this packet hash is among these
abbrev pub is_logged_at_all : List Noted → List ℕ → Bool
is_logged_at_all frames hash = list_any (has_hash hash) frames

-- the log stands for all the frames that were put, the newest first: it keeps the last of them, as many as it has room for
pub record LogStandsFor (put : List Noted) (log : Log) : Type 0 where
  pub frames : log.frames ≡ take log.room put
