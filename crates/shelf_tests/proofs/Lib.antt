mod Creating
mod FewColumns
mod LentRows
mod WriteTells
