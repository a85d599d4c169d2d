mod FreshDisks
mod RestingJournals
mod RowWrites
