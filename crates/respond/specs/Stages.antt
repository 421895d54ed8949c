-- What the stages of `respond` promise: listings printed, the maker called. Assumes nothing.
use Rattle.std.specs.Prelude.{ℕ, ◌+◌, ◌*◌, ◌≤◌, ◌≡◌, true, List, ◌++◌, length, ltb}
use Rattle.std.proofs.Math.Option.{none}
use Rattle.lambdamix.specs.declared.Mode.TheVariants.{Making}
use Rattle.lambdamix.specs.Limits.{max_nodes, program_fuel, max_bytes}
use Rattle.lambdamix.specs.Script.{Script}
use Rattle.lambdamix.specs.Listing.{listing}
use Rattle.script.specs.declared.Counts.{Counts}
use Rattle.script.specs.File.{head_inputs, script_in}
use Rattle.script.specs.Refusals.{file_refusal}
use Rattle.script.specs.Tables.{Tables, tables_refusal}
use Rattle.text.specs.Places.{Placed}
use Rattle.printer.specs.ListCalls.{tables_text}
use Rattle.residual.specs.AfterRun.{Told, call_result}
use Rattle.cells.specs.Room.{Stores, stores_suffice}
use Rattle.specializer.specs.Making.{making, made_file}
use Rattle.respond.specs.Response.{program_made, made_text}
use Rattle.streams.specs.Lines.{unmade_text, counts_text}
use Rattle.streams.specs.Given.{given_settings}
use Rattle.streams.specs.Printed.{Prints}
use Rattle.streams.specs.Answers.{Texts}

-- the most bytes of the listing of a file that passes 1 to 8
unfoldable pub listing_bytes : ℕ
listing_bytes = 13 * max_nodes + 1

-- counts and tables that pass 1 to 8 are listed from a place on, where there is room
pub record ListsAt (n : Counts) (x : Tables) (at : ℕ) (before after : List ℕ) (r : ℕ) : Type 0 where
  pub lists :
      tables_refusal n.types n.inputs n.nodes x ≡ none → at + length (tables_text n x) ≤ length before →
      Placed (tables_text n x) at before after r

-- a listing stands at a place
pub record ListedAt (s : Script) (at : ℕ) (before after : List ℕ) (r : ℕ) : Type 0 where
  pub short : length (listing s) ≤ listing_bytes
  pub placed : Placed (listing s) at before after r

-- a file that passes 1 to 8 is listed from a place on
pub record ListsFile (bs : List ℕ) (at : ℕ) (before after : List ℕ) (r : ℕ) : Type 0 where
  pub lists : file_refusal bs ≡ none → at + listing_bytes ≤ length before → ListedAt (script_in bs) at before after r

-- finished code is printed from the file that it was written as
pub record PrintsMade (inputs k n : ℕ) (file before after : List ℕ) (r : ℕ) : Type 0 where
  pub prints :
      file_refusal (made_file inputs n file) ≡ none → max_bytes ≤ length before →
      Prints (counts_text k n ++ listing (script_in (made_file inputs n file))) before after r

-- the maker's call with the settings that follow a script, on stores that suffice
pub record MakesGiven (n : Counts) (x : Tables) (rest file made : List ℕ) (r : Told) : Type 0 where
  pub stores : Stores
  pub enough : stores_suffice program_fuel stores ≡ true
  pub gives : call_result r made ≡ making Making n.types n.inputs n.nodes x (given_settings rest) program_fuel stores file

-- what `benchmake` prints
abbrev pub made_texts : Texts
made_texts =
    record {
      answer = λ file rest. made_text (head_inputs file) (program_made file rest);
      refusal = λ number place. unmade_text (ltb number 20) number place;
    }
