-- What a page tells in its title.
--
-- *The story.* The first death of an owner that the lines tell, and who gets that mutex after it, with which reply.
use Rattle.std.specs.Prelude.{ℕ, ◌==◌, ◌&&◌, Bool, true, false, Option, Some, None, List, [], ◌∷◌, ◌++◌, codes}
use Rattle.std.specs.Prelude.{if◌then◌else◌}
use Rattle.lockword.specs.declared.reply.Reply.{Reply}
use Rattle.lockword.specs.declared.reply.Reply.TheVariants.{OK, EOWNERDEAD}
use Rattle.lockword.specs.Replies.{reply_word}
use Rattle.posixmutex.specs.declared.point.Decision.{Decision}
use Rattle.posixmutex.specs.Objects.{acquires}
use Rattle.facts.specs.declared.fact.Fact.{Fact}
use Rattle.facts.specs.declared.fact.Fact.TheVariants.{Death, Point}
use Rattle.facts.specs.declared.fact.Line.{Line}
use Rattle.picture.specs.Names.{Called, mutex_head, mutex_tail, thread_head, thread_tail}
use Rattle.page.specs.declared.stories.Source.{Source}
use Rattle.page.specs.declared.stories.Source.TheVariants.{Trace, History}
use Rattle.page.specs.declared.stories.Story.{Story}

-- ---- who gets the mutex

-- who locks with such a reply owns the mutex
abbrev pub owns_by : Reply → Bool
owns_by OK = true
owns_by EOWNERDEAD = true
owns_by r = false

-- by this point its thread gets mutex m
abbrev pub gets : ℕ → Decision → Bool
gets m d = d.mutex == m && (acquires d.operation && owns_by d.reply)

abbrev pub heir_by : ℕ → Fact → Option Decision
heir_by m (Point d) = if gets m d then Some d else None
heir_by m f = None

-- the first of these, or else the other one
abbrev pub or_else : {A : Type 0} → Option A → Option A → Option A
or_else (Some x) y = Some x
or_else None y = y

-- the first point in these lines by which a thread gets mutex m
abbrev pub heir_in : ℕ → List Line → Option Decision
heir_in m [] = None
heir_in m (l ∷ ls) = or_else (heir_by m l.fact) (heir_in m ls)

-- ---- the story

abbrev pub story_from : Fact → List Line → Option Story → Option Story
story_from (Death t m) later other = Some (record { dead = t; mutex = m; heir = heir_in m later })
story_from f later other = other

-- that of the first death in these lines, if one is there
abbrev pub story_in : List Line → Option Story
story_in [] = None
story_in (l ∷ ls) = story_from l.fact ls (story_in ls)

-- ---- the title

abbrev pub thread_name : Called → ℕ → List ℕ
thread_name n t = thread_head n t ++ thread_tail n t

abbrev pub mutex_name : Called → ℕ → List ℕ
mutex_name n m = mutex_head n m ++ mutex_tail n m

abbrev pub death_text : Called → Story → List ℕ
death_text n s = thread_name n s.dead ++ (codes " dies owning " ++ mutex_name n s.mutex)

abbrev pub heir_text : Called → Option Decision → List ℕ
heir_text n None = []
heir_text n (Some d) = codes "; " ++ (thread_name n d.thread ++ (codes " gets " ++ reply_word d.reply))

abbrev pub story_text : Called → Story → List ℕ
story_text n s = death_text n s ++ heir_text n s.heir

-- what comes before the story; and the title if there is none
abbrev pub front_text : Source → List ℕ
front_text Trace = []
front_text History = codes "A history: "

abbrev pub plain_title : Source → List ℕ
plain_title Trace = codes "A trace of robust mutexes"
plain_title History = codes "A history of robust mutexes"

abbrev pub title_with : Called → Source → Option Story → List ℕ
title_with n source None = plain_title source
title_with n source (Some s) = front_text source ++ story_text n s

abbrev pub title_text : Called → Source → List Line → List ℕ
title_text n source ls = title_with n source (story_in ls)
