pub mod ShowsViews
