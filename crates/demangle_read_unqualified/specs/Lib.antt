pub mod UnqualifiedStarts
